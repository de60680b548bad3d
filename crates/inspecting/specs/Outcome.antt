-- The result for the table of a device.
use Rattle.std.specs.Prelude.{◌≡◌, ℕ, ◌<◌, ◌≤◌, Bool, true, false, List, ◌∷◌, ◌++◌, [], length, codes, decimal, Option}
use Rattle.reports.specs.declared.table.Entry.{Entry}
use Rattle.reports.specs.declared.table.Table.{Table}
use Rattle.common.specs.Lines.{◌␣◌, IsFirstBadLine}
use Rattle.reports.specs.Combination.{IsValid, running_set}
use Rattle.reports.specs.ReportText.{report_text}
use Rattle.reports.specs.Rightness.{IsRight}
use Rattle.reports.specs.StandardOrder.{IsInStandardOrder}
use Rattle.reports.specs.TableText.{IsSomeTable, IsTableText}
use Rattle.inspecting.specs.Requested.{requested_versions}
use Rattle.inspecting.specs.Requests.{Replaces}
use Rattle.inspecting.specs.declared.fleet.outcome.Outcome.{Outcome}
use Rattle.inspecting.specs.declared.fleet.outcome.Outcome.TheVariants.{Decided, NotValid, BadLine, TooLong}

-- The result over a table. If its running images fit each other, it is the versions that the table
-- requests, and the right report in standard order.
abbrev pub IsResult : Table → Outcome → Type 0
IsResult table (Decided decision) =
    (decision.requested ≡ requested_versions table) × IsValid table running_set × IsRight table decision.report
    × IsInStandardOrder table decision.report.refusals.items
IsResult table NotValid = IsValid table running_set → ⊥
IsResult table (BadLine n) = ⊥
IsResult table TooLong = ⊥

-- The result over a table with its requests replaced by those of a release.
abbrev pub IsDecision : List (Option Entry) → Table → Outcome → Type 0
IsDecision entries table outcome =
    (planned : Table) × Replaces entries table.images.items planned.images.items
    × IsResult planned outcome

-- The result over a text of at most 65,536 bytes: why it is no table, or that over the table.
abbrev pub IsOutcomeOfText : List (Option Entry) → List ℕ → Outcome → Type 0
IsOutcomeOfText entries text TooLong = ⊥
IsOutcomeOfText entries text (BadLine n) = IsFirstBadLine IsSomeTable text n
IsOutcomeOfText entries text outcome =
    (table : Table) × IsTableText text table × IsDecision entries table outcome

-- The result for a device with this text of a table, in a release of these requests.
abbrev pub IsOutcome : List (Option Entry) → List ℕ → Outcome → Type 0
IsOutcome entries text TooLong = 65536 < length text
IsOutcome entries text outcome = (length text ≤ 65536) × IsOutcomeOfText entries text outcome

-- The printed text of a result.
abbrev pub outcome_text : Outcome → List ℕ
outcome_text (Decided decision) = report_text decision.report
outcome_text NotValid = codes "not-valid" ++ 10 ∷ []
outcome_text (BadLine n) = (codes "bad-line" ␣ decimal n) ++ 10 ∷ []
outcome_text TooLong = codes "too-long" ++ 10 ∷ []

-- Whether a result is no report.
abbrev pub is_bad : Outcome → Bool
is_bad (Decided decision) = false
is_bad NotValid = true
is_bad (BadLine n) = true
is_bad TooLong = true
