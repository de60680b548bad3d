use Rattle.std.proofs.Common.{◌≡◌, ◌+◌, ◌++◌, List, ℕ, length}
use Rattle.std.specs.Option.{option_map_or}
use Rattle.std.specs.Prelude.{option_copied}
use Rattle.inspecting.specs.Planning.{Advances, left_in}
use Rattle.inspecting.proofs.fleet.planner.Planner.read.Given as goal

-- The bytes before those that are left are read.
abbrev pub invariant-loop-rest : goal.invariant-loop-rest
invariant-loop-rest g l =
    (some : List ℕ) × (some ++ left_in (option_copied l.rest) ≡ l.bytes)
    × Advances l.requests.entries l.fn.self l.self some (g.W.Write.contents l.fn.out) (g.W.Write.contents l.out)

abbrev pub decreases-loop-rest : goal.decreases-loop-rest
decreases-loop-rest g l = option_map_or (λ rest. length rest.now + 1) l.rest 0
