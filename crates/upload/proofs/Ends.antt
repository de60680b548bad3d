-- How a call of uploads ends, from how the calls in it end.
use Rattle.std.proofs.Common.{◌≡◌, ◌+◌, ◌≤◌, ◌↔◌, ℕ, arith, Bool, IsTrue, true, false, refl, Result, Ok, Err, sym, ◌∙◌, ap}
use Rattle.std.specs.Prelude.{IsErrAnd, IsErrOf}
use Rattle.std.proofs.Common.{true≢false}
use Rattle.flash_model.specs.Chip.{Chip, Ends, IsUncut}
use Rattle.flash_model.proofs.Ending.{ends_well as ended, uncut_trans}
use Rattle.flash_model.specs.declared.error.FlashError.{FlashError}
use Rattle.flash_model.specs.declared.error.FlashError.TheVariants.{Cut, Off}
use Rattle.machine.specs.declared.upload_error.UploadError.{UploadError}
use Rattle.machine.specs.declared.upload_error.UploadError.TheVariants as no
use Rattle.trailer.specs.Reads.{Decides}
use Rattle.upload.specs.Ending.{EndsUpload}
use Rattle.machine.specs.Intake.{is_flash}

same_error : {T U : Type 0} (a b : FlashError) → IsErrOf {T = U} (Err (no.Flash a)) (no.Flash b)
    → IsErrOf {T = T} (Err a) b
same_error a b e = ap (λ x. Err x) (one a b e) where
  one : {U : Type 0} (a b : FlashError) → IsErrOf {T = U} (Err (no.Flash a)) (no.Flash b) → a ≡ b
  one a b e = cc

-- A call that failed at the flash.
pub ends_flash : {T U : Type 0} (error : FlashError) (old new : Chip) → Ends {T = T} (Err error) old new
    → EndsUpload {T = U} (Err (no.Flash error)) old new
ends_flash error old new ends = record {
  asleep = ends.asleep;
  uncut = λ e. absurd (true≢false e);
  cut = λ is. ends.cut (same_error error Cut is);
  off = λ is. ends.off (same_error error Off is);
}

-- If a call fails because the flash is off, nothing changed.
pub same_off : {T : Type 0} (error : FlashError) (old new : Chip) → Ends {T = T} (Err error) old new
    → error ≡ Off → new ≡ old
same_off error old new ends is = ends.asleep (ends.off (ap (λ e. Err e) is))

-- A call that follows one without a power cut.
pub ends_later : {T : Type 0} (result : Result T UploadError) (old mid new : Chip) → IsUncut old mid
    → (old.is_on ≡ false → mid ≡ old) → EndsUpload result mid new → EndsUpload result old new
ends_later result old mid new uncut asleep ends = record {
  asleep = λ off. ends.asleep (uncut.on ∙ off) ∙ asleep off;
  uncut = λ e. uncut_trans old mid new uncut (ends.uncut e);
  cut = λ is. let at = ends.cut is in record { cuts = at.cuts ∙ ap (λ n. n + 1) uncut.cuts; off = at.off };
  off = λ is. sym uncut.on ∙ ends.off is;
}

-- What two calls ask a journal for, if the call between them only reads.
pub journal_both : (first second old : ℕ) (mid read : Chip) (new : ℕ) → mid.journaled ≤ old + first → read ≡ mid
    → new ≤ read.journaled + second → new ≤ old + (first + second)
journal_both first second old mid read new start same more =
    omega (arith, start, ap (λ (chip : Chip). chip.journaled) same, more)

-- A call returns the error that an inner call returned.
pub err_passed : {T E : Type 0} (result : Result T E) (error : E) → IsErrAnd result (λ passed. passed ≡ error)
    → result ≡ Err error
err_passed (Ok value) error is = absurd is
err_passed (Err passed) error is = ap (λ e. Err e) is

-- A call of uploads that didn't fail at the flash.
pub ends_unstopped : {T : Type 0} (result : Result T UploadError) (old new : Chip) → is_flash result ≡ false
    → (old.is_on ≡ false → new ≡ old) → IsUncut old new → EndsUpload result old new
ends_unstopped result old new well asleep uncut = record {
  asleep = asleep;
  uncut = λ e. uncut;
  cut = λ is. absurd (true≢false (sym (ap is_flash is) ∙ well));
  off = λ is. absurd (true≢false (sym (ap is_flash is) ∙ well));
}

-- A call that only reads leaves the power as it was.
uncut_same : (old new : Chip) → new ≡ old → IsUncut old new
uncut_same old new same = record {
  on = ap (λ (chip : Chip). chip.is_on) same;
  cuts = ap (λ (chip : Chip). chip.cuts) same;
}

pub reads_well : {T : Type 0} (value : T) (old new : Chip) → new ≡ old → Ends (Ok value) old new
reads_well value old new same = ended value old new (uncut_same old new same) (λ off. same)

-- A call of uploads that only reads, and didn't fail at the flash.
pub ends_read : {T : Type 0} (result : Result T UploadError) (old new : Chip) → is_flash result ≡ false → new ≡ old
    → EndsUpload result old new
ends_read result old new well same = ends_unstopped result old new well (λ off. same) (uncut_same old new same)

no_more : (n m : ℕ) → n ≡ m → n ≡ m + 1 → ⊥
no_more n m same more = omega (arith, same, more)

-- A call that only reads can fail only because the flash is off.
pub only_off : {T : Type 0} (error : FlashError) (old new : Chip) → new ≡ old → Ends {T = T} (Err error) old new
    → error ≡ Off
only_off Cut old new same ends = absurd (no_more new.cuts old.cuts (ap (λ (chip : Chip). chip.cuts) same)
    (ends.cut refl).cuts)
only_off Off old new same ends = refl

-- A call on a flash that is off fails with `Off`.
pub off_stops : {T : Type 0} (error : FlashError) (old new : Chip) → Ends {T = T} (Err error) old new
    → old.is_on ≡ false → error ≡ Off
off_stops error old new ends off = only_off error old new (ends.asleep off) ends

pub ends_well : {T U : Type 0} (value : T) (other : U) (old new : Chip) → Ends (Ok value) old new
    → EndsUpload (Ok other) old new
ends_well value other old new ends = ends_unstopped (Ok other) old new refl ends.asleep ends.uncut

-- A test that changed nothing.
pub decides : (answer : Bool) (fact : Type 0) (old new : Chip) → new ≡ old → (IsTrue answer ↔ fact)
    → Decides fact old new (Ok answer)
decides answer fact old new same tells = record {
  same = same;
  ok = tells;
  erases = ap (λ (chip : Chip). chip.erases) same;
  ends = reads_well answer old new same;
}

-- An error of the flash isn't `NoSession`.
pub not_no_session : {T : Type 0} (error : FlashError) → IsErrOf {T = T} (Err (no.Flash error)) no.NoSession → ⊥
not_no_session error e = cc

pub not_size : {T : Type 0} (error : FlashError) → IsErrOf {T = T} (Err (no.Flash error)) no.SizeWrong → ⊥
not_size error e = cc

pub not_too_much : {T : Type 0} (error : FlashError) → IsErrOf {T = T} (Err (no.Flash error)) no.TooMuch → ⊥
not_too_much error e = cc

pub too_much_none : {T : Type 0} → IsErrOf {T = T} (Err no.TooMuch) no.NoSession → ⊥
too_much_none e = cc

pub no_session_none : {T : Type 0} → IsErrOf {T = T} (Err no.NoSession) no.TooMuch → ⊥
no_session_none e = cc

-- A call that added nothing didn't return true.
pub not_added : (result : Result Bool FlashError) (added : Bool) → result ≡ Ok added → added ≡ false
    → result ≡ Ok true → ⊥
not_added result added was is e = cc

-- A call that added bytes didn't return false.
pub added_not : (result : Result Bool FlashError) (added : Bool) → result ≡ Ok added → added ≡ true
    → result ≡ Ok false → ⊥
added_not result added was is e = cc

pub stopped_not : (result : Result Bool FlashError) (error : FlashError) → result ≡ Err error → result ≡ Ok true → ⊥
stopped_not result error was e = cc
