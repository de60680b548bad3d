use Rattle.std.proofs.Common.{refl}
use Rattle.inspecting.proofs.image.description_in.Goals as goal

-- The bytes fail this check.
pub returns-in-Err : goal.returns-in-Err
returns-in-Err c = (refl, rw c.deref.ensures.value at c.in-Err.ensures.fault)
