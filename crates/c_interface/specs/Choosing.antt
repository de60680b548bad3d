-- The answers of the choice and of the check, for tables and reports that are texts.
use Rattle.std.specs.Prelude.{◌≡◌, ℕ, ◌<◌, ◌≤◌, ◌++◌, List, drop, length}
use Rattle.common.specs.Lines.{IsFirstBadLine}
use Rattle.reports.specs.declared.table.Table.{Table}
use Rattle.reports.specs.declared.report.Report.{Report}
use Rattle.reports.specs.Combination.{IsValid, running_set}
use Rattle.reports.specs.ReportText.{IsReportText, IsSomeReport, report_text}
use Rattle.reports.specs.Rightness.{IsRight}
use Rattle.reports.specs.StandardOrder.{IsInStandardOrder}
use Rattle.reports.specs.TableText.{IsSomeTable, IsTableText}
use Rattle.c_interface.specs.Texts.{MOST_REPORT}
use Rattle.c_interface.specs.Numbers.{DONE, INVALID_SET, NO_REPORT, TOO_SMALL, NO_TABLE, WRONG}

-- The answer of a choice. Without a report the buffer is unchanged, and the length is 0 or the
-- number of a bad line. A buffer of 2048 bytes is large enough for every report.
pub data AnswersChoice (text old new : List ℕ) (out number : ℕ) : Type 0 where
  Chosen : (table : Table) (report : Report) → IsTableText text table → IsRight table report
      → IsInStandardOrder table report.refusals.items → out ≡ length (report_text report)
      → new ≡ report_text report ++ drop out old → number ≡ DONE
      → AnswersChoice text old new out number
  NoTable : IsFirstBadLine IsSomeTable text out → new ≡ old → number ≡ NO_TABLE
      → AnswersChoice text old new out number
  Invalid : (table : Table) → IsTableText text table → (IsValid table running_set → ⊥)
      → out ≡ 0 → new ≡ old → number ≡ INVALID_SET → AnswersChoice text old new out number
  NoRoom : (table : Table) (report : Report) → IsTableText text table → IsRight table report
      → IsInStandardOrder table report.refusals.items → length old < length (report_text report)
      → length (report_text report) ≤ MOST_REPORT → out ≡ 0 → new ≡ old → number ≡ TOO_SMALL
      → AnswersChoice text old new out number

-- The answer of a check. The report is read only if the table is one.
pub data AnswersCheck (rows lines : List ℕ) (out number : ℕ) : Type 0 where
  Right : (table : Table) (report : Report) → IsTableText rows table → IsReportText lines report
      → IsRight table report → out ≡ 0 → number ≡ DONE → AnswersCheck rows lines out number
  Wrong : (table : Table) (report : Report) → IsTableText rows table → IsReportText lines report
      → (IsRight table report → ⊥) → out ≡ 0 → number ≡ WRONG
      → AnswersCheck rows lines out number
  NoTable : IsFirstBadLine IsSomeTable rows out → number ≡ NO_TABLE
      → AnswersCheck rows lines out number
  NoReport : (table : Table) → IsTableText rows table → IsFirstBadLine IsSomeReport lines out
      → number ≡ NO_REPORT → AnswersCheck rows lines out number
