use Rattle.std.proofs.Common.{[]}
use Rattle.inspecting.proofs.ResultLaws.{OnErr-then, OnOk-then, TakesPrefix-none}
use Rattle.inspecting.proofs.fleet.result_lines.write_object.Goals as goal

-- The object of the result is written, with the notes on it.
pub returns-clause-told : goal.returns-clause-told
returns-clause-told g c =
    OnOk-then c.write_line.result (λ written. (_, rw (c.deref.ensures, c.in-Ok.ensures) at written)) c.write_line.ensures.told

-- A prefix of it is written.
pub returns-clause-begun : goal.returns-clause-begun
returns-clause-begun g c =
    OnErr-then c.write_line.result (λ begun. (_, rw (c.deref.ensures, c.in-Ok.ensures) at begun)) c.write_line.ensures.begun

-- There was no memory for the object.
pub returns-in_default-clause-begun : goal.returns-in_default-clause-begun
returns-in_default-clause-begun g c = ([], TakesPrefix-none _ _)
