use Rattle.std.proofs.Common.{ℕ, ◌<◌}
use Rattle.checker.specs.Flaws.{IsAcceptableIfTaken}
use Rattle.checker.proofs.combination.first_unacceptable_member.Given as goal

-- Each request so far that is taken is acceptable.
abbrev pub invariant-loop-number : goal.invariant-loop-number
invariant-loop-number l = (j : ℕ) → j < l.number → IsAcceptableIfTaken l.table l.report j
