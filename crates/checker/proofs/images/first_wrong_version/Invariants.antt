use Rattle.std.proofs.Common.{ℕ, ◌<◌}
use Rattle.reports.specs.Rightness.{HasVersionAt}
use Rattle.checker.proofs.images.first_wrong_version.Given as goal

-- Each image so far has its version.
abbrev pub invariant-loop-number : goal.invariant-loop-number
invariant-loop-number l = (j : ℕ) → j < l.number → HasVersionAt l.table l.report j
