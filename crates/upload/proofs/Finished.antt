-- What finishing an upload leaves on the flash.
use Rattle.std.proofs.Common.{◌≡◌, ◌⊎◌, ℕ, ◌+◌, ◌&&◌, ◌++◌, false, List, length, take, replicate, Some, None, Result, Ok, Err, refl, sym, ◌∙◌, ap, subst, arith, length-append, ⊎_elim, inl, inr, not, if◌then◌else◌}
use Rattle.std.proofs.Math.Seq.{take-append_seam}
use Rattle.flash_model.specs.declared.error.FlashError.{FlashError}
use Rattle.flash_model.specs.declared.error.FlashError.TheVariants as flash
use Rattle.sector_map.specs.declared.layout.Side.TheVariants.{Secondary}
use Rattle.sector_map.specs.Part.{Slot, TrailerOf, only}
use Rattle.trailer.specs.Fields.{Fields, erased_fields}
use Rattle.trailer.specs.Standing.{first_is_set, is_good, requested_fields}
use Rattle.common.specs.Kind.{kind_of}
use Rattle.upload.specs.View.{View, KeepsView}
use Rattle.machine.specs.Device.{Session}
use Rattle.upload.specs.Steady.{told_by}
use Rattle.upload.specs.Sessions.{IsUploadAt, IsWritten, session_of}
use Rattle.upload.specs.Finish.{Judges, EndsFinish, IsFinishedAt}
use Rattle.upload.specs.declared.sessions.Upload.{Upload}
use Rattle.machine.specs.declared.upload_error.UploadError.{UploadError}
use Rattle.machine.specs.declared.upload_error.UploadError.TheVariants as no
use Rattle.upload.proofs.Frames.{erased_stands}

pub not_good_stands : (t : Fields) (l : List ℕ) → is_good t.magic ≡ false → told_by t l ≡ None
not_good_stands t l e = ap (λ g. if g && (not t.withdrawn && first_is_set l) then Some
    (kind_of t.image_ok) else None) e

-- The checked slot is refused, or the flash fails before the request is written.
pub refused : (w : View) (i : ℕ) (s : Session) (e : UploadError) → length s.received ≡ s.size
    → w.trailer i Secondary ≡ erased_fields → Judges s.received s.digest (Err e) → EndsFinish w i s (Err e)
refused w i s no.DigestWrong long trailer j = (long, j, trailer)
refused w i s (no.NotAnImage code) long trailer j = ((long, j.0), j.1, trailer)
refused w i s (no.Flash flash.Cut) long trailer j =
    (long, inl (erased_stands (w.trailer i Secondary) (w.slot i Secondary) trailer))
refused w i s (no.Flash flash.Off) long trailer j =
    (long, erased_stands (w.trailer i Secondary) (w.slot i Secondary) trailer)
refused w i s other long trailer j = absurd j

-- The last unit is written, then the slot is checked.
module _ (i start : ℕ) (old mid judged : View) (u : Upload)
    (keeps : KeepsView (only (Slot i Secondary)) old mid) (same : judged ≡ mid)
    (wrote : (front : List ℕ) → length front ≡ start → IsWritten (old.slot i Secondary) front
    → IsWritten (mid.slot i Secondary) (front ++ u.held.items))
    (from : start + length u.held.items ≡ u.received) (size : u.received ≡ u.size) where
  all_written : (written : List ℕ) → IsUploadAt old i u written
      → IsWritten (judged.slot i Secondary) (written ++ u.held.items)
  all_written written was = subst (λ (w : View). IsWritten (w.slot i Secondary) (written ++ u.held.items))
      (sym same) (wrote written (omega (arith, from, was.count)) was.slot)

  long : (written : List ℕ) → IsUploadAt old i u written → length (written ++ u.held.items) ≡ u.size
  long written was = length-append written u.held.items ∙ sym was.count ∙ size

  erased : (written : List ℕ) → IsUploadAt old i u written → judged.trailer i Secondary ≡ erased_fields
  erased written was = ap (λ (w : View). w.trailer i Secondary) same ∙ keeps.trailers i Secondary refl ∙ was.trailer

  verdict : (result : Result Unit UploadError) → Judges (take u.size (mid.slot i Secondary)) u.digest result
      → (written : List ℕ) → IsUploadAt old i u written → Judges (written ++ u.held.items) u.digest result
  verdict result judges written was =
      let bytes = written ++ u.held.items in
      let is : take u.size (mid.slot i Secondary) ≡ bytes =
      ap (λ (w : View). take u.size (w.slot i Secondary)) (sym same)
      ∙ ap (λ l. take u.size l) (all_written written was).is
      ∙ ap (λ n. take n (bytes ++ replicate (all_written written was).left 0xff)) (sym (long written was))
      ∙ take-append_seam bytes (replicate (all_written written was).left 0xff) in
      subst (λ l. Judges l u.digest result) is judges

  pub erased_after : (written : List ℕ) → IsUploadAt old i u written → judged.trailer i Secondary ≡ erased_fields
  erased_after written was = erased written was

  pub finish_refused : (e : UploadError) → Judges (take u.size (mid.slot i Secondary)) u.digest (Err e)
      → (written : List ℕ) → IsUploadAt old i u written → EndsFinish judged i (session_of u written) (Err e)
  finish_refused e judges written was = refused judged i (session_of u written) e (long written was)
      (erased written was) (verdict (Err e) judges written was)

  module _ (new : View) (keeps' : KeepsView (only (TrailerOf i Secondary)) judged new)
      (judges : Judges (take u.size (mid.slot i Secondary)) u.digest (Ok tt)) where
    pub finish_done : new.trailer i Secondary ≡ requested_fields u.kind → (written : List ℕ)
        → IsUploadAt old i u written → IsFinishedAt new i (session_of u written)
    finish_done trailer written was =
        let (digest, image) = verdict (Ok tt) judges written was in
        record {
          good = record { size = long written was; digest = digest; image = image };
          slot = subst (λ l. IsWritten l (written ++ u.held.items)) (sym (keeps'.slots i Secondary refl))
              (all_written written was);
          trailer = trailer;
        }

    pub finish_cut : (error : FlashError) → (new.trailer i Secondary ≡ requested_fields u.kind)
        ⊎ (is_good (new.trailer i Secondary).magic ≡ false)
        → (error ≡ flash.Off → new ≡ judged) → (written : List ℕ) → IsUploadAt old i u written
        → EndsFinish new i (session_of u written) (Err (no.Flash error))
    finish_cut flash.Cut either off written was = (
      long written was,
      ⊎_elim
          (λ trailer. inr (finish_done trailer written was))
          (λ torn. inl (not_good_stands (new.trailer i Secondary) (new.slot i Secondary) torn))
          either,
    )
    finish_cut flash.Off either off written was = (
      long written was,
      erased_stands (new.trailer i Secondary) (new.slot i Secondary)
          (ap (λ (w : View). w.trailer i Secondary) (off refl) ∙ erased written was),
    )
