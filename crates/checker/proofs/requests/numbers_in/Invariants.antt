use Rattle.std.proofs.Common.{ℕ, ◌<◌, ◌≤◌, length, get_or}
use Rattle.reports.specs.declared.report.Refusal.{Refusal}
use Rattle.checker.proofs.requests.numbers_in.Given as goal

-- The number is above those of all images, and of the refusals so far.
abbrev pub invariant-loop-refusal : goal.invariant-loop-refusal
invariant-loop-refusal l =
    (length l.table.images.items ≤ l.count) × (length l.report.images.items ≤ l.count)
    × ((k : ℕ) (d : Refusal) → k < l.refusal-index → (get_or l.refusal-items k d).image < l.count)
