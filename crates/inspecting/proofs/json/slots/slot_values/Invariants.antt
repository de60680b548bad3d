use Rattle.std.proofs.Common.{◌≡◌, map, take}
use Rattle.std.specs.List.{flat_map}
use Rattle.serde_json.specs.View.{view}
use Rattle.inspecting.specs.Json.{slots_json}
use Rattle.inspecting.proofs.json.slots.slot_values.Given as goal

-- There are the objects of the slots of the images so far.
abbrev pub invariant-loop-slots : goal.invariant-loop-slots
invariant-loop-slots l = map view l.values.items ≡ flat_map slots_json (take l.slots-index l.images)
