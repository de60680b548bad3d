-- Laws of what a call changes in the bytes.
use Rattle.std.proofs.Common.{◌≡◌, ℕ, true, false, List, Result, Ok, Err, refl, sym, ◌∙◌, ap, subst}
use Rattle.std.specs.Prelude.{IfErr}
use Rattle.std.proofs.lemmas.Bool.{true≢false}
use Rattle.flash_model.specs.Chip.{Chip}
use Rattle.flash_model.specs.declared.error.FlashError.TheVariants as flash
use Rattle.sector_map.specs.declared.layout.SectorMap.{SectorMap}
use Rattle.sector_map.proofs.Parts.{keeps_refl}
use Rattle.manifest.specs.declared.identity.Identity.{Identity}
use Rattle.machine.specs.declared.upload_error.UploadError.TheVariants as upload
use Rattle.flash_contents.specs.Holding.{DeviceView}
use Rattle.machine.specs.declared.error.Fault.{Fault}
use Rattle.machine.specs.declared.error.Fault.TheVariants as no
use Rattle.machine.specs.declared.reply.Reply.{Reply}
use Rattle.machine.specs.declared.reply.Reply.TheVariants.{Cut, Done, Refused}
use Rattle.boot_core.specs.Answers.{EndsCall, is_stop, reply_of_result}
use Rattle.c_interface.specs.DeviceCall.{DeviceCall, Accept, Piece, Finish, Withdraw, Confirm, Boot}
use Rattle.c_interface.specs.Calls.{IsCallOf, LeavesBytes}

cut_refused : (fault : Fault) → Cut ≡ Refused fault → ⊥
cut_refused fault e = cc

done_refused : (fault : Fault) → Done ≡ Refused fault → ⊥
done_refused fault e = cc

-- A refused call on a flash with power leaves the flash unchanged.
refused_flash : (result : Result Unit Fault) (old new : DeviceView)
    → IfErr result (λ fault. is_stop fault ≡ false → new.flash ≡ old.flash)
    → EndsCall (reply_of_result result) old new → old.flash.is_on ≡ true → (fault : Fault)
    → reply_of_result result ≡ Refused fault → new.flash ≡ old.flash
refused_flash (Ok done) old new refused ends on fault e = absurd (done_refused fault e)
refused_flash (Err no.NotBooted) old new refused ends on fault e = refused refl
refused_flash (Err no.OnTrial) old new refused ends on fault e = refused refl
refused_flash (Err no.NotOnTrial) old new refused ends on fault e = refused refl
refused_flash (Err no.NotProvisioned) old new refused ends on fault e = refused refl
refused_flash (Err (no.RunningDamaged image)) old new refused ends on fault e = refused refl
refused_flash (Err no.InvalidSet) old new refused ends on fault e = refused refl
refused_flash (Err no.NoMemory) old new refused ends on fault e = refused refl
refused_flash (Err (no.Manifest error)) old new refused ends on fault e = refused refl
refused_flash (Err (no.Flash flash.Cut)) old new refused ends on fault e = absurd (cut_refused fault e)
refused_flash (Err (no.Flash flash.Off)) old new refused ends on fault e = absurd (true≢false (sym on ∙ ends.off refl refl))
refused_flash (Err (no.Upload upload.OldSequence)) old new refused ends on fault e = refused refl
refused_flash (Err (no.Upload upload.TooBig)) old new refused ends on fault e = refused refl
refused_flash (Err (no.Upload upload.NoSession)) old new refused ends on fault e = refused refl
refused_flash (Err (no.Upload upload.TooMuch)) old new refused ends on fault e = refused refl
refused_flash (Err (no.Upload upload.SizeWrong)) old new refused ends on fault e = refused refl
refused_flash (Err (no.Upload upload.DigestWrong)) old new refused ends on fault e = refused refl
refused_flash (Err (no.Upload (upload.NotAnImage check))) old new refused ends on fault e = refused refl
refused_flash (Err (no.Upload upload.WrongPrecursor)) old new refused ends on fault e = refused refl
refused_flash (Err (no.Upload upload.NothingRequested)) old new refused ends on fault e = refused refl
refused_flash (Err (no.Upload upload.NoMemory)) old new refused ends on fault e = refused refl
refused_flash (Err (no.Upload (upload.Flash flash.Cut))) old new refused ends on fault e = absurd (cut_refused fault e)
refused_flash (Err (no.Upload (upload.Flash flash.Off))) old new refused ends on fault e =
    absurd (true≢false (sym on ∙ ends.off refl refl))

module _ (map : SectorMap) (identity : Identity) (boots : ℕ) (a b : DeviceView) (reply : Reply)
    (on : a.flash.is_on ≡ true) where
  -- a refusal with this result leaves the bytes
  unchanged : (result : Result Unit Fault) → reply ≡ reply_of_result result
      → IfErr result (λ fault. is_stop fault ≡ false → b.flash ≡ a.flash) → EndsCall (reply_of_result result) a b
      → (fault : Fault) → reply ≡ Refused fault → b.flash.bytes ≡ a.flash.bytes
  unchanged result same refused ends fault e =
      ap (λ (chip : Chip). chip.bytes) (refused_flash result a b refused ends on fault (sym same ∙ e))

  bytes_leave : (call : DeviceCall) → IsCallOf map identity boots call a b reply
      → LeavesBytes map call a.flash.bytes b.flash.bytes reply
  bytes_leave (Accept manifest) (result, same, is) =
      record { size = is.outside.size; behind = is.outside.behind; refused = unchanged result same is.refused is.ends }
  bytes_leave (Piece image more) (result, same, is) =
      record { size = is.outside.size; behind = is.outside.behind; refused = unchanged result same is.refused is.ends }
  bytes_leave (Withdraw image) (result, same, is) =
      record { size = is.outside.size; behind = is.outside.behind; refused = unchanged result same is.refused is.ends }
  bytes_leave (Confirm image) (result, same, is) =
      record { size = is.outside.size; behind = is.outside.behind; refused = unchanged result same is.refused is.ends }
  bytes_leave (Finish image) (result, same, is) =
      record { size = is.outside.size; behind = is.outside.behind; refused = tt }
  bytes_leave Boot (left, last, result, same, is) =
      let keeps = is.on_map a.flash (keeps_refl map _ a.flash) in
      record { size = keeps.size; behind = keeps.behind; refused = tt }

-- by other names of the bytes
pub leaves_of : (map : SectorMap) (identity : Identity) (boots : ℕ) (a b : DeviceView) (reply : Reply)
    (call : DeviceCall) (old new : List ℕ) → a.flash.is_on ≡ true → a.flash.bytes ≡ old → b.flash.bytes ≡ new
    → IsCallOf map identity boots call a b reply → LeavesBytes map call old new reply
leaves_of map identity boots a b reply call old new on first second is =
    subst (λ l. LeavesBytes map call old l reply) second
    (subst (λ l. LeavesBytes map call l b.flash.bytes reply) first (bytes_leave map identity boots a b reply on call is))
