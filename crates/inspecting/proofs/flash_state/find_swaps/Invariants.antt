use Rattle.std.proofs.Common.{◌≡◌}
use Rattle.inspecting.specs.FlashState.{swaps_in}
use Rattle.inspecting.proofs.flash_state.find_swaps.Given as goal

-- The flash is unchanged, and these are the swaps of the images so far.
abbrev pub invariant-loop-image : goal.invariant-loop-image
invariant-loop-image g l = record {
  same : g.F.Flash.chip l.flash ≡ g.F.Flash.chip l.fn.flash;
  swaps : l.swaps.items ≡ swaps_in l.map (g.F.Flash.chip l.fn.flash) l.image;
}
