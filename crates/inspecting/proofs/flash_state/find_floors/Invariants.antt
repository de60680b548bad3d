use Rattle.std.proofs.Common.{◌≡◌}
use Rattle.inspecting.specs.FlashState.{floors_in}
use Rattle.inspecting.proofs.flash_state.find_floors.Given as goal

-- These are the floors of the images so far.
abbrev pub invariant-loop-image : goal.invariant-loop-image
invariant-loop-image l = l.floors.items ≡ floors_in l.state l.image
