-- What a refused call of uploads leaves of a device as it was.
use Rattle.std.proofs.Common.{◌≡◌, ◌∙◌, ℕ, Bool, true, false, not, List, Option, Result, Ok, Err, IfErr, IsErrOf, ap, refl, sym, subst}
use Rattle.std.proofs.Common.{true≢false}
use Rattle.flash_model.specs.Chip.{Chip}
use Rattle.flash_model.proofs.Frame.{same_outside_refl}
use Rattle.sector_map.specs.declared.layout.SectorMap.{SectorMap}
use Rattle.upload.specs.Ending.{IsClosedAfter}
use Rattle.machine.specs.Intake.{is_flash}
use Rattle.upload.specs.Finishing.{WritesLastUnit}
use Rattle.upload.specs.declared.sessions.Upload.{Upload}
use Rattle.machine.specs.declared.upload_error.UploadError.{UploadError}
use Rattle.machine.specs.declared.upload_error.UploadError.TheVariants as upload
use Rattle.machine.specs.declared.error.Fault.{Fault}
use Rattle.machine.specs.declared.error.Fault.TheVariants as no
use Rattle.boot_core.specs.Answers.{is_no_session, is_stop, keeps_all}
use Rattle.boot_core.specs.Device.{seen}
use Rattle.boot_core.proofs.Stopping.{IsStopped}

pub if_err_as : {T E : Type 0} {P Q : E → Type 0} (r : Result T E) → ((e : E) → P e → Q e) → IfErr r P → IfErr r Q
if_err_as (Ok x) more p = tt
if_err_as (Err e) more p = more e p

-- The refusal is that no upload is open.
pub no_session : (error : UploadError) → is_no_session error ≡ true → error ≡ upload.NoSession
no_session upload.NoSession is = refl
no_session upload.OldSequence is = absurd (true≢false (sym is))
no_session upload.TooBig is = absurd (true≢false (sym is))
no_session upload.TooMuch is = absurd (true≢false (sym is))
no_session upload.SizeWrong is = absurd (true≢false (sym is))
no_session upload.DigestWrong is = absurd (true≢false (sym is))
no_session (upload.NotAnImage fault) is = absurd (true≢false (sym is))
no_session upload.WrongPrecursor is = absurd (true≢false (sym is))
no_session upload.NothingRequested is = absurd (true≢false (sym is))
no_session (upload.Flash error) is = absurd (true≢false (sym is))
no_session upload.NoMemory is = absurd (true≢false (sym is))

not_true : (b : Bool) → not b ≡ true → b ≡ false
not_true true is = cc
not_true false is = refl

-- A refusal that leaves everything isn't the flash's.
pub keeps_unstopped : (closing : Bool) (fault : Fault) → keeps_all closing fault ≡ true → is_stop fault ≡ false
keeps_unstopped closing no.NotBooted is = refl
keeps_unstopped closing no.OnTrial is = refl
keeps_unstopped closing no.NotOnTrial is = refl
keeps_unstopped closing no.NotProvisioned is = refl
keeps_unstopped closing (no.RunningDamaged image) is = refl
keeps_unstopped closing no.InvalidSet is = refl
keeps_unstopped closing (no.Flash error) is = absurd (true≢false (sym is))
keeps_unstopped closing no.NoMemory is = refl
keeps_unstopped closing (no.Manifest error) is = refl
keeps_unstopped true (no.Upload error) is = ap (λ e. is_stop (no.Upload e)) (no_session error is)
keeps_unstopped false (no.Upload error) is = not_true (is_flash {T = Unit} (Err error)) is

-- What a refusal that is passed on leaves, after a call that left this.
module _ (old mid new : Chip) (told tmid tnew : List (Option Upload)) (up upn : Bool) (fault given : Fault)
    (passed : given ≡ fault) (stopped : IsStopped fault tmid tnew up upn) where
  pub up_stays : is_stop given ≡ false → upn ≡ up
  up_stays own = stopped.stays (sym (ap is_stop passed) ∙ own)

  pub all_stays : new ≡ old → tmid ≡ told → is_stop given ≡ false → seen new tnew upn ≡ seen old told up
  all_stays same table own =
      let kept : tnew ≡ tmid = stopped.kept (sym (ap is_stop passed) ∙ own) in
      let awake : upn ≡ up = up_stays own in
      cc

-- A refusal of an upload that is passed on.
pub own_error : (error : UploadError) (given : Fault) → given ≡ no.Upload error → is_stop given ≡ false
    → is_flash {T = Unit} (Err error) ≡ false
own_error error given passed own = sym (ap is_stop passed) ∙ own

-- A call that may close an upload, and refuses before it writes: if the refusal leaves everything,
-- flash and uploads are as they were.
pub kept_by_piece : (old new : Chip) (told tnew : List (Option Upload)) (taken : Result Unit UploadError)
    → IfErr taken (λ error. is_flash {T = Unit} (Err error) ≡ false → new ≡ old)
    → (IsErrOf taken upload.NoSession → tnew ≡ told)
    → IfErr taken (λ error. keeps_all true (no.Upload error) ≡ true → (new ≡ old) × (tnew ≡ told))
kept_by_piece old new told tnew (Ok done) nothing stays = tt
kept_by_piece old new told tnew (Err error) nothing stays = λ keeps. (
  nothing (keeps_unstopped true (no.Upload error) keeps),
  stays (ap (λ e. Err e) (no_session error keeps)),
)

-- The same of a call that may close an upload, and writes before it refuses.
pub kept_by_finish : (old new : Chip) (told tnew : List (Option Upload)) (taken : Result Unit UploadError)
    → (IsErrOf taken upload.NoSession → new ≡ old) → (IsErrOf taken upload.NoSession → tnew ≡ told)
    → IfErr taken (λ error. keeps_all true (no.Upload error) ≡ true → (new ≡ old) × (tnew ≡ told))
kept_by_finish old new told tnew (Ok done) same stays = tt
kept_by_finish old new told tnew (Err error) same stays = λ keeps.
    let none = ap (λ e. Err e) (no_session error keeps) in
    (same none, stays none)

-- The same of a call that closes no upload.
pub kept_by_withdraw : (old new : Chip) (told tnew : List (Option Upload)) (taken : Result Unit UploadError)
    → IfErr taken (λ error. is_flash {T = Unit} (Err error) ≡ false → new ≡ old) → IsClosedAfter taken told tnew
    → IfErr taken (λ error. keeps_all false (no.Upload error) ≡ true → (new ≡ old) × (tnew ≡ told))
kept_by_withdraw old new told tnew (Ok done) nothing table = tt
kept_by_withdraw old new told tnew (Err error) nothing table = λ keeps.
    let own = keeps_unstopped false (no.Upload error) keeps in
    (nothing own, table.same own)

upload_same : (one other : UploadError) → no.Upload one ≡ no.Upload other → one ≡ other
upload_same one other is = cc

err_same : {T : Type 0} (one other : Fault) (a b : Result T Fault) → a ≡ Err one → b ≡ Err other → a ≡ b → one ≡ other
err_same one other a b first second same = cc

pub given_size : (error : UploadError) (given : Fault) (result : Result Unit Fault) → given ≡ no.Upload error
    → result ≡ Err given → result ≡ Err (no.Upload upload.SizeWrong) → IsErrOf {T = Unit} (Err error) upload.SizeWrong
given_size error given result passed is wrong =
    ap (λ e. Err e) (upload_same error upload.SizeWrong
    (sym passed ∙ err_same given (no.Upload upload.SizeWrong) result result is wrong refl))

-- Nothing is written.
pub last_same : (map : SectorMap) (image : ℕ) (u : Upload) (old mid : Chip) → mid ≡ old
    → WritesLastUnit map image u old mid
last_same map image u old mid same = subst (λ chip. WritesLastUnit map image u old chip) (sym same) (record {
  unit = same_outside_refl _ _ old;
  none = λ none. refl;
})
