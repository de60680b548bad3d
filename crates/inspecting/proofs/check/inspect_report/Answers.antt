use Rattle.host.proofs.InputLaws.{GiveBoth-read}
use Rattle.inspecting.proofs.CheckLaws.{IsVerdictOf-checked}
use Rattle.inspecting.proofs.check.inspect_report.Goals as goal

-- Both texts are what their sources gave, and this is the verdict on them.
pub returns : goal.returns
returns g c = (
  c.in_ok-table.table.items,
  c.in_ok-report.report.items,
  GiveBoth-read _ _ _ _ _ _ _ _ c.in_ok-table.ensures.bytes c.in_ok-table.ensures.others c.in_ok-report.ensures.bytes,
  IsVerdictOf-checked c.in_ok-verdict_in.field-0 _ _ c.in_ok-table-2.table
      c.in_ok-table-2.ensures c.in_ok-verdict_in.ensures,
)
