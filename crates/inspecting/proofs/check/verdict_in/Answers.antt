use Rattle.std.proofs.Common.{refl}
use Rattle.inspecting.proofs.check.verdict_in.Goals as goal

-- The text and its first bad line are returned.
pub returns-in-Err : goal.returns-in-Err
returns-in-Err c = (refl, rw c.deref.ensures.value at c.in-Err.ensures.line)
