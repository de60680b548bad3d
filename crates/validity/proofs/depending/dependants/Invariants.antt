use Rattle.std.proofs.Common.{◌≡◌, map, take}
use Rattle.validity.specs.Dependants.{asks_for}
use Rattle.validity.proofs.depending.dependants.Given as goal

-- What was asked of each image so far.
abbrev pub invariant-loop-image : goal.invariant-loop-image
invariant-loop-image l =
    l.members.items ≡ map (asks_for l.number) (take l.image-index l.table.images.items)
