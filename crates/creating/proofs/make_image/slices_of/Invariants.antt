use Rattle.std.proofs.Common.{map, take}
use Rattle.std.specs.List.{AllZip}
use Rattle.creating.specs.NewImageEnd.{AreAlternatives}
use Rattle.creating.proofs.make_image.slices_of.Given as goal

-- The slices so far are those of the groups so far.
abbrev pub invariant-loop-group : goal.invariant-loop-group
invariant-loop-group l = AllZip AreAlternatives (map (λ group. group.items) (take l.group-index l.groups)) l.slices.items
