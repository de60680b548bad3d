use Rattle.inspecting.proofs.ResultLaws.{TakesPrefix-none}
use Rattle.inspecting.proofs.fleet.result_lines.write_text.Goals as goal

-- There was no memory for the text.
pub returns-in_default-clause-begun : goal.returns-in_default-clause-begun
returns-in_default-clause-begun g c = TakesPrefix-none _ _
