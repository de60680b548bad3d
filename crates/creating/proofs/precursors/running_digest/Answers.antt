use Rattle.std.proofs.Common.{◌≡◌}
use Rattle.std.specs.Prelude.{Err, Ok, Result}
use Rattle.creating.proofs.precursors.running_digest.Goals as goal

-- A result isn't both a value and an error.
not_both : {T E : Type 0} (r : Result T E) (x : T) (e : E) → r ≡ Err e → r ≡ Ok x → ⊥
not_both r x e failed made = cc

-- An intact image would have a description.
pub returns-in-Err-clause-found : goal.returns-in-Err-clause-found
returns-in-Err-clause-found g c = λ description intact.
    not_both c.describe_slot.result description _ c.in-Err.is
    (c.describe_slot.ensures.only c.requires.on description intact)
