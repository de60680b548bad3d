-- Lemmas about facts of results.
use Rattle.std.proofs.Common.{◌≡◌, Result, Ok, Err, OnOk, sym, subst}
use Rattle.std.specs.Result.{IsErrAnd, IfErr}

-- A fact of an error that a call returned holds of the error that is passed on.
pub IfErr-passed : {T E : Type 0} (result : Result T E) (error : E) (Holds : E → Type 0)
    → IsErrAnd result (λ passed. passed ≡ error) → Holds error → IfErr result Holds
IfErr-passed (Ok found) error Holds is holds = tt
IfErr-passed (Err passed) error Holds is holds = subst Holds (sym is) holds

-- Two facts of one result give a third.
pub OnOk-both : {T E P Q R : Type 0} (result : Result T E) → (P → Q → R) → OnOk result P → OnOk result Q → OnOk result R
OnOk-both (Ok x) f p q = f p q
OnOk-both (Err x) f p q = tt
