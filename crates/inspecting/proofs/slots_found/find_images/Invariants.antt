use Rattle.std.proofs.Common.{◌≡◌, ◌≤◌, length}
use Rattle.inspecting.specs.SlotsFound.{AreSlotsUpTo}
use Rattle.inspecting.proofs.slots_found.find_images.Given as goal

-- The flash is unchanged, and these are the slots of the images so far.
abbrev pub invariant-loop-image : goal.invariant-loop-image
invariant-loop-image g l = record {
  few : l.image-end ≤ 8;
  same : g.F.Flash.chip l.flash ≡ g.F.Flash.chip l.fn.flash;
  count : length l.images.items ≡ l.image;
  found : AreSlotsUpTo l.map (g.F.Flash.chip l.fn.flash) l.state l.image l.images.items;
}
