use Rattle.std.proofs.Common.{ℕ, ◌<◌}
use Rattle.reports.specs.Combination.{HasMetDependencies}
use Rattle.reports.specs.Rightness.{taken_in}
use Rattle.checker.proofs.combination.first_unmet.Given as goal

-- The dependencies and groups of each image so far are met.
abbrev pub invariant-loop-number : goal.invariant-loop-number
invariant-loop-number l = (j : ℕ) → j < l.number → HasMetDependencies l.table (taken_in l.report) j
