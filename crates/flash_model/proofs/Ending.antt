-- Lemmas about how a call on a flash ends that makes several calls in turn.
use Rattle.std.proofs.Common.{◌≡◌, ◌+◌, true, false, Result, Ok, Err, OnOk, refl, sym, ◌∙◌, ap}
use Rattle.std.specs.Prelude.{IsErr, IsErrAnd, IsErrOf}
use Rattle.std.proofs.Common.{true≢false}
use Rattle.std.proofs.Common.{Bool}
use Rattle.flash_model.specs.declared.error.FlashError.{FlashError}
use Rattle.flash_model.specs.declared.error.FlashError.TheVariants.{Cut, Off}
use Rattle.flash_model.specs.Chip.{Chip, Ends, IsUncut}

pub uncut_refl : (chip : Chip) → IsUncut chip chip
uncut_refl chip = record { on = refl; cuts = refl }

pub uncut_trans : (old mid new : Chip) → IsUncut old mid → IsUncut mid new → IsUncut old new
uncut_trans old mid new first second = record {
  on = second.on ∙ first.on;
  cuts = second.cuts ∙ first.cuts;
}

pub asleep_trans : (old mid new : Chip) → IsUncut old mid → (old.is_on ≡ false → mid ≡ old)
    → (mid.is_on ≡ false → new ≡ mid) → old.is_on ≡ false → new ≡ old
asleep_trans old mid new so_far asleep last off = last (so_far.on ∙ off) ∙ asleep off

on_ok : {T : Type 0} (result : Result T FlashError) (P Q : Type 0) → (P → Q) → OnOk result P → OnOk result Q
on_ok (Ok value) P Q step holds = step holds
on_ok (Err error) P Q step holds = tt

-- A call after others that weren't interrupted.
pub ends_after : {T : Type 0} (result : Result T FlashError) (old mid new : Chip) → IsUncut old mid
    → (old.is_on ≡ false → mid ≡ old) → Ends result mid new → Ends result old new
ends_after result old mid new so_far asleep last = record {
  asleep = λ off. last.asleep (so_far.on ∙ off) ∙ asleep off;
  uncut = on_ok result (IsUncut mid new) (IsUncut old new) (uncut_trans old mid new so_far) last.uncut;
  cut = λ is. let cut = last.cut is in record { cuts = cut.cuts ∙ ap (λ n. n + 1) so_far.cuts; off = cut.off };
  off = λ is. sym so_far.on ∙ last.off is;
}

-- A promise on success holds at an error.
pub at_error : {T E : Type 0} (P : Type 0) (result : Result T E) → IsErr result → OnOk result P
at_error P (Ok value) is = absurd (true≢false (sym is))
at_error P (Err error) is = tt

-- A successful call returned no error.
pub no_error : {T E : Type 0} (value : T) (error : E) → IsErrOf (Ok value) error → ⊥
no_error value error e = cc

-- If a call returns `Off` whenever the flash is off, its success means that the flash was on.
pub was_on : {T : Type 0} (value : T) (on : Bool) → (on ≡ false → IsErrOf (Ok value) Off) → on ≡ true
was_on value true off = refl
was_on value false off = absurd (no_error value Off (off refl))

same_error : {T U : Type 0} (a b kind : FlashError) → a ≡ b → IsErrOf {T = T} (Err a) kind
    → IsErrOf {T = U} (Err b) kind
same_error a b kind same e = ap (λ x. Err x) (sym same ∙ one a kind e) where
  one : {U : Type 0} (a b : FlashError) → IsErrOf {T = U} (Err a) b → a ≡ b
  one a b e = cc

-- A call ends with the error of a call that it made.
pub ends_passed : {T U : Type 0} (result : Result T FlashError) (error : FlashError) (old new : Chip)
    → IsErrAnd result (λ passed. passed ≡ error) → Ends {T = U} (Err error) old new → Ends result old new
ends_passed (Ok value) error old new is ends = absurd is
ends_passed (Err passed) error old new is ends = record {
  asleep = ends.asleep;
  uncut = tt;
  cut = λ was. ends.cut (same_error passed error Cut is was);
  off = λ was. ends.off (same_error passed error Off is was);
}

-- A successful call, of whose writes none was interrupted.
pub ends_well : {T : Type 0} (value : T) (old new : Chip) → IsUncut old new → (old.is_on ≡ false → new ≡ old)
    → Ends (Ok value) old new
ends_well value old new uncut asleep = record {
  asleep = asleep;
  uncut = uncut;
  cut = λ is. absurd (no_error value Cut is);
  off = λ is. absurd (no_error value Off is);
}

-- A successful call with another value.
pub ends_done : {T U : Type 0} (value : T) (done : U) (old new : Chip) → Ends (Ok value) old new
    → Ends (Ok done) old new
ends_done value done old new ends = ends_well done old new ends.uncut ends.asleep

-- A call after a successful one.
pub ends_then : {T U : Type 0} (value : T) (result : Result U FlashError) (old mid new : Chip)
    → Ends (Ok value) old mid → Ends result mid new → Ends result old new
ends_then value result old mid new first last = ends_after result old mid new first.uncut first.asleep last

-- A write that is interrupted.
pub ends_cut : {T : Type 0} {old new : Chip} → old.is_on ≡ true → new.cuts ≡ old.cuts + 1 → new.is_on ≡ false
    → Ends {T = T} (Err Cut) old new
ends_cut on cuts off = record {
  asleep = λ asleep. absurd (true≢false (sym on ∙ asleep));
  uncut = tt;
  cut = λ is. record { cuts = cuts; off = off };
  off = λ is. cc;
}
