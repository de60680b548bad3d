use Rattle.std.proofs.Common.{◌≡◌, map, take}
use Rattle.std.specs.List.{flat_map}
use Rattle.serde_json.specs.View.{view}
use Rattle.inspecting.specs.Json.{moved_json}
use Rattle.inspecting.proofs.json.slots.moved_values.Given as goal

-- There are the objects of the swaps of the images so far.
abbrev pub invariant-loop-slots : goal.invariant-loop-slots
invariant-loop-slots l =
    map view l.values.items ≡ flat_map (λ it. moved_json it.image it.moved) (take l.slots-index l.images)
