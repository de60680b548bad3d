-- What `choose` reads and writes, by its result.
use Rattle.std.specs.Prelude.{◌≡◌, ℕ, List, Option, Result, Ok, Err}
use Rattle.std.specs.Io.KnownBytes.{Appends, Keeps, Consumes, IsAtEnd}
use Rattle.reports.specs.declared.table.Table.{Table}
use Rattle.reports.specs.declared.report.Report.{Report}
use Rattle.common.specs.Lines.{IsFirstBadLine}
use Rattle.reports.specs.TableText.{IsTableText, IsSomeTable}
use Rattle.reports.specs.Combination.{IsValid, running_set}
use Rattle.reports.specs.Rightness.{IsRight}
use Rattle.reports.specs.StandardOrder.{IsInStandardOrder}
use Rattle.reports.specs.ReportText.{report_text, IsReportText}
use Rattle.inspecting.specs.Written.{TakesPrefix}
use Rattle.inspecting.specs.declared.choose.Choice.{Choice}
use Rattle.inspecting.specs.declared.choose.ChooseEnd.{ChooseEnd}
use Rattle.inspecting.specs.declared.choose.NoChoice.{NoChoice}
use Rattle.inspecting.specs.declared.choose.NoChoice.TheVariants as no
use Rattle.inspecting.specs.declared.inspection.Inspection.{Inspection}
use Rattle.inspecting.specs.declared.inspection.Inspection.TheVariants as found
use Rattle.inspecting.specs.declared.choose.ChooseEnd.TheVariants.{Done, BadLine, NotValid, NoMemory, ReadFailed, WriteFailed}

-- The bytes spell a table whose running images fit each other. The report is right for it, and has
-- its refusals in standard order. The printed text of the report is a text of this report.
pub record IsChoice (bytes : List ℕ) (table : Table) (report : Report) : Type 0 where
  pub spelled : IsTableText bytes table
  pub valid : IsValid table running_set
  pub right : IsRight table report
  pub standard : IsInStandardOrder table report.refusals.items
  pub text : IsReportText (report_text report) report

-- The bytes spell this table, and its running images don't fit each other.
pub record IsUnfit (bytes : List ℕ) (table : Table) : Type 0 where
  pub spelled : IsTableText bytes table
  pub unfit : IsValid table running_set → ⊥

-- The bytes spell a table whose running images don't fit each other.
abbrev pub IsUnfitTable : List ℕ → Type 0
IsUnfitTable bytes = (table : Table) × IsUnfit bytes table

-- The report is the choice over the table that the bytes spell.
abbrev pub IsChosen : List ℕ → Report → Type 0
IsChosen bytes report = (table : Table) × IsChoice bytes table report

-- The result of the choice over these bytes: the table that they spell, and the report; or the first
-- bad line; or the table, whose running images don't fit each other.
abbrev pub Chooses : Result Choice NoChoice → List ℕ → Type 0
Chooses (Ok choice) bytes = IsChoice bytes choice.table choice.report
Chooses (Err (no.BadLine n)) bytes = IsFirstBadLine IsSomeTable bytes n
Chooses (Err (no.NotValid table)) bytes = IsUnfit bytes table

-- What `choose` finds.
abbrev pub IsChoiceIn : List ℕ → Inspection → Type 0
IsChoiceIn bytes (found.Choice choice) = IsChoice bytes choice.table choice.report
IsChoiceIn bytes it = ⊥

-- A reader gave these bytes, and is at its end.
abbrev pub GivesAll : Option (List ℕ) → Option (List ℕ) → List ℕ → Type 0
GivesAll old new bytes = Consumes old new bytes × IsAtEnd new

-- What a reader gave, by the end of the choice. It is all bytes, unless memory ran out or a read
-- failed.
abbrev pub Reads : ChooseEnd → Option (List ℕ) → Option (List ℕ) → List ℕ → Type 0
Reads NoMemory old new bytes = Consumes old new bytes
Reads ReadFailed old new bytes = Consumes old new bytes
Reads Done old new bytes = GivesAll old new bytes
Reads (BadLine n) old new bytes = GivesAll old new bytes
Reads NotValid old new bytes = GivesAll old new bytes
Reads WriteFailed old new bytes = GivesAll old new bytes

-- What a writer took, by the end of the choice over these bytes: the report, or a prefix of it if a
-- write failed, and else nothing.
abbrev pub Writes : ChooseEnd → List ℕ → Option (List ℕ) → Option (List ℕ) → Type 0
Writes Done bytes old new =
    (report : Report) × IsChosen bytes report × Appends old new (report_text report)
Writes (BadLine n) bytes old new = IsFirstBadLine IsSomeTable bytes n × Keeps old new
Writes NotValid bytes old new = IsUnfitTable bytes × Keeps old new
Writes NoMemory bytes old new = Keeps old new
Writes ReadFailed bytes old new = Keeps old new
Writes WriteFailed bytes old new =
    (report : Report) × IsChosen bytes report × TakesPrefix (report_text report) old new
