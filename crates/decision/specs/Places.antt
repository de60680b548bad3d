-- Results of calls that fill places of their caller, read as if they were returned.
use Rattle.std.specs.Prelude.{ℕ, Bool, true, false, Option, Some, None, Result, Ok, Err}
use Rattle.reports.specs.declared.table.Request.{Request}
use Rattle.reports.specs.declared.table.Request.TheVariants as request
use Rattle.reports.specs.declared.table.Table.{Table}
use Rattle.reports.specs.declared.report.Report.{Report}
use Rattle.flash_contents.specs.declared.finding.Finding.{Finding}
use Rattle.flash_contents.specs.declared.finding.Finding.TheVariants as finding
use Rattle.flash_contents.specs.declared.finding.Reading.{Reading}
use Rattle.flash_contents.specs.declared.finding.Reading.TheVariants.{Read, DamagedAt}
use Rattle.decision.specs.declared.places.Verdict.{Verdict}
use Rattle.decision.specs.declared.places.Verdict.TheVariants.{Decided, Damaged, Invalid}

-- What was read: the table in its place, or the damaged image.
abbrev pub reading_in : Table → Option ℕ → Reading
reading_in table None = Read table
reading_in table (Some i) = DamagedAt i

-- What was found: the table and the report in their places, or why there is no decision.
abbrev pub finding_in : Table → Report → Verdict → Finding
finding_in table report Decided = finding.Decided table report
finding_in table report (Damaged i) = finding.Damaged i
finding_in table report Invalid = finding.Invalid

-- The value of a result, read so.
abbrev pub read_as : {A B E : Type 0} → (A → B) → Result A E → Result B E
read_as f (Ok v) = Ok (f v)
read_as f (Err e) = Err e

-- What a call left in a place, if it says that something is there.
abbrev pub some_if : {A : Type 0} → A → Bool → Option A
some_if value true = Some value
some_if value false = None

-- A request that has an entry.
abbrev pub IsEntryRequest : Request → Type 0
IsEntryRequest (request.Entry entry) = Unit {0}
IsEntryRequest other = ⊥
