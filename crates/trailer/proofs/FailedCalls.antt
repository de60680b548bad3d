-- Lemmas about calls that could not read, and about calls on a flash that is off.
use Rattle.std.proofs.Common.{◌≡◌, ◌↔◌, ◌+◌, ℕ, ◌∙◌, Bool, true, false, Result, Ok, Err, IsErr, IsErrOf, IsTrue, IfOk, OnOk}
use Rattle.std.proofs.Common.{ap, arith, refl, sym}
use Rattle.std.proofs.lemmas.Bool.{false≢true}
use Rattle.flash_model.specs.declared.error.FlashError.{FlashError}
use Rattle.flash_model.specs.declared.error.FlashError.TheVariants.{Cut, Off}
use Rattle.flash_model.specs.Chip.{Chip, Ends}
use Rattle.flash_model.proofs.Ending.{at_error, no_error}
use Rattle.trailer.specs.Reads.{Decides, Tells}

one_more : (n : ℕ) → n ≡ n + 1 → ⊥
one_more n e = omega (arith, e)

-- If a call succeeds only on a flash that is on, it returns `Off` on a flash that is off. It can't
-- return `Cut`, because a cut is counted and a flash that is off doesn't change.
pub refuses : {T : Type 0} (result : Result T FlashError) (old new : Chip) → OnOk result (old.is_on ≡ true)
    → Ends result old new → old.is_on ≡ false → IsErrOf result Off
refuses (Ok value) old new on ends off = absurd (false≢true (sym off ∙ on))
refuses (Err Off) old new on ends off = refl
refuses (Err Cut) old new on ends off = absurd (one_more old.cuts
    (sym (ap (λ (chip : Chip). chip.cuts) (ends.asleep off)) ∙ (ends.cut refl).cuts))

-- A call that failed on a flash that is off returned `Off`.
pub refuses_failed : {T : Type 0} (result : Result T FlashError) (old new : Chip) → IsErr result
    → Ends result old new → old.is_on ≡ false → IsErrOf result Off
refuses_failed result old new is ends = refuses result old new (at_error (old.is_on ≡ true) result is) ends

-- If the first call that a call makes succeeded, the flash was on.
pub refuses_first : {T U : Type 0} (value : T) (result : Result U FlashError) (P : Type 0)
    → (P → IsErrOf (Ok value) Off) → P → IsErrOf result Off
refuses_first value result P off p = absurd (no_error value Off (off p))

no_answer : {V E : Type 0} (P : V → Type 0) (result : Result V E) → IsErr result → IfOk result P
no_answer P (Ok answer) is = absurd (false≢true is)
no_answer P (Err error) is = tt

pub tells_nothing : {V : Type 0} (value : V) (old new : Chip) (result : Result V FlashError) → new ≡ old
    → IsErr result → Ends result old new → Tells value old new result
tells_nothing value old new result same is ends = record {
  same = same;
  ok = no_answer (λ answer. answer ≡ value) result is;
  erases = at_error _ result is;
  off = refuses_failed result old new is ends;
  ends = ends;
}

pub decides_nothing : (fact : Type 0) (old new : Chip) (result : Result Bool FlashError) → new ≡ old
    → IsErr result → Ends result old new → Decides fact old new result
decides_nothing fact old new result same is ends = record {
  same = same;
  ok = no_answer (λ answer. IsTrue answer ↔ fact) result is;
  erases = at_error _ result is;
  ends = ends;
}

-- A fact that always holds also holds on success.
pub at_any : {T E : Type 0} (P : Type 0) (result : Result T E) → P → OnOk result P
at_any P (Ok value) holds = holds
at_any P (Err error) holds = tt
