use Rattle.std.proofs.Common.{ℕ, ◌<◌}
use Rattle.reports.specs.Rightness.{IsDecidedOnce}
use Rattle.checker.proofs.requests.first_not_decided_once.Given as goal

-- The requests of the images so far are decided once.
abbrev pub invariant-loop-number : goal.invariant-loop-number
invariant-loop-number l = (j : ℕ) → j < l.number → IsDecidedOnce l.table l.report j
