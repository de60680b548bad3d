use Rattle.inspecting.proofs.ResultLaws.{OnOk-then}
use Rattle.inspecting.proofs.RowsLaws.{IsTallied-more}
use Rattle.inspecting.proofs.fleet.summary.Summary.add_row.Goals as goal

-- The key has the row's count more.
pub returns : goal.returns
returns c = OnOk-then c.add_row.result (λ adds added was. IsTallied-more added _ was adds) c.add_row.ensures
