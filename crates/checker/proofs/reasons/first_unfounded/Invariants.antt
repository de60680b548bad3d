use Rattle.std.proofs.Common.{ℕ, ◌<◌}
use Rattle.checker.specs.Flaws.{IsFoundedAt}
use Rattle.checker.proofs.reasons.first_unfounded.Given as goal

-- Each refusal so far has a reason that holds at its place.
abbrev pub invariant-loop-place : goal.invariant-loop-place
invariant-loop-place l =
    (k : ℕ) → k < l.place → IsFoundedAt l.table l.refusals k
