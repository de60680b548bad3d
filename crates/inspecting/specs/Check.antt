-- What `check` finds in a table and a report.
use Rattle.std.specs.Prelude.{◌≡◌, ℕ, Bool, true, false, List, [], ◌∷◌, ◌++◌, Result, Ok, Err, codes, if◌then◌else◌}
use Rattle.reports.specs.declared.table.Table.{Table}
use Rattle.reports.specs.declared.report.Report.{Report}
use Rattle.common.specs.Lines.{IsFirstBadLine}
use Rattle.reports.specs.TableText.{IsTableText, IsSomeTable}
use Rattle.reports.specs.ReportText.{IsReportText, IsSomeReport}
use Rattle.reports.specs.Rightness.{IsRight}
use Rattle.host.specs.declared.error.Refusal.{Refusal}
use Rattle.host.specs.declared.error.Refusal.TheVariants.{TableLine, ReportLine}
use Rattle.inspecting.specs.declared.check.Verdict.{Verdict}
use Rattle.inspecting.specs.declared.inspection.Inspection.{Inspection}
use Rattle.inspecting.specs.declared.inspection.Inspection.TheVariants as found

-- The texts spell a table and a report that is right for it.
pub record IsRightText (table_text report_text : List ℕ) (table : Table) (report : Report)
    : Type 0 where
  pub table_spelled : IsTableText table_text table
  pub report_spelled : IsReportText report_text report
  pub right : IsRight table report

-- The second text is a report that is right for the table of the first.
abbrev pub AreRight : List ℕ → List ℕ → Type 0
AreRight table_text report_text =
    (table : Table) × (report : Report) × IsRightText table_text report_text table report

-- The texts are those of a table and of a report, and the report isn't right for the table.
abbrev pub AreWrong : List ℕ → List ℕ → Type 0
AreWrong table_text report_text =
    IsSomeTable table_text × IsSomeReport report_text × (AreRight table_text report_text → ⊥)

-- The line of the verdict. A line feed is 10.
abbrev pub verdict_text : Bool → List ℕ
verdict_text is_right = (if is_right then codes "yes" else codes "no") ++ 10 ∷ []

-- The result of reading a table: the table that the bytes spell, and no other; or the first bad
-- line.
abbrev pub ReadsTable : Result Table Refusal → List ℕ → Type 0
ReadsTable (Ok table) bytes =
    IsTableText bytes table × ((other : Table) → IsTableText bytes other → table ≡ other)
ReadsTable (Err (TableLine bad)) bytes =
    (bad.text.items ≡ bytes) × IsFirstBadLine IsSomeTable bytes bad.line
ReadsTable (Err refusal) bytes = ⊥

-- A report that the bytes spell is right for this table.
abbrev pub IsRightFor : Table → List ℕ → Type 0
IsRightFor table bytes = (report : Report) × IsReportText bytes report × IsRight table report

-- Whether the report that the bytes spell is right for this table.
abbrev pub IsChecked : Bool → Table → List ℕ → Type 0
IsChecked true table bytes = IsRightFor table bytes
IsChecked false table bytes = IsSomeReport bytes × (IsRightFor table bytes → ⊥)

-- A verdict on this table and on the report that the bytes spell.
pub record IsVerdictOn (table : Table) (bytes : List ℕ) (verdict : Verdict) : Type 0 where
  pub same : verdict.table ≡ table
  pub spelled : IsReportText bytes verdict.report
  pub checked : IsChecked verdict.is_right table bytes

-- The result of checking a report: the verdict; or the first bad line.
abbrev pub ChecksReport : Result Verdict Refusal → Table → List ℕ → Type 0
ChecksReport (Ok verdict) table bytes = IsVerdictOn table bytes verdict
ChecksReport (Err (ReportLine bad)) table bytes =
    (bad.text.items ≡ bytes) × IsFirstBadLine IsSomeReport bytes bad.line
ChecksReport (Err refusal) table bytes = ⊥

-- Whether the second text is a report that is right for the table of the first.
abbrev pub AreChecked : Bool → List ℕ → List ℕ → Type 0
AreChecked true table report = AreRight table report
AreChecked false table report = AreWrong table report

-- The verdict on these texts. Its table and its report are those that they spell.
pub record IsVerdictOf (table report : List ℕ) (verdict : Verdict) : Type 0 where
  pub table_spelled : IsTableText table verdict.table
  pub report_spelled : IsReportText report verdict.report
  pub checked : AreChecked verdict.is_right table report

-- What `check` finds in these texts.
abbrev pub IsVerdict : List ℕ → List ℕ → Inspection → Type 0
IsVerdict table report (found.Verdict verdict) = IsVerdictOf table report verdict
IsVerdict table report it = ⊥
