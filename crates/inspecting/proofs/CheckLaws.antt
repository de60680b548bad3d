-- The verdict on the texts of a table and of a report.
use Rattle.std.proofs.Common.{Bool, List, Ok, false, subst, sym, true, ℕ}
use Rattle.reports.specs.Rightness.{IsRight}
use Rattle.reports.specs.declared.table.Table.{Table}
use Rattle.inspecting.specs.Check.{AreChecked, ChecksReport, IsChecked, IsVerdictOf, ReadsTable}
use Rattle.inspecting.specs.declared.check.Verdict.{Verdict}

-- The text of the table spells no other table, so a report that is wrong for it is wrong.
checked : (is_right : Bool) (table_text report_text : List ℕ) (table : Table) → ReadsTable (Ok table) table_text
    → IsChecked is_right table report_text → AreChecked is_right table_text report_text
checked true table_text report_text table reads checks =
    (table, checks.0, record { table_spelled = reads.0; report_spelled = checks.1; right = checks.2 })
checked false table_text report_text table reads checks = (
  (table, reads.0),
  checks.0,
  λ right. checks.1 (
    right.1,
    right.2.report_spelled,
    subst (λ (one : Table). IsRight one right.1) (sym (reads.1 right.0 right.2.table_spelled)) right.2.right,
  ),
)

pub IsVerdictOf-checked : (verdict : Verdict) (table_text report_text : List ℕ) (table : Table)
    → ReadsTable (Ok table) table_text → ChecksReport (Ok verdict) table report_text
    → IsVerdictOf table_text report_text verdict
IsVerdictOf-checked verdict table_text report_text table reads checks = record {
  table_spelled = rw checks.same reads.0;
  report_spelled = checks.spelled;
  checked = checked verdict.is_right table_text report_text table reads checks.checked;
}
