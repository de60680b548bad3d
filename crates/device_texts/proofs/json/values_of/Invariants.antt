use Rattle.std.proofs.Common.{◌≡◌, map, take}
use Rattle.serde_json.specs.View.{view}
use Rattle.device_texts.proofs.json.values_of.Given as goal

-- There are the objects of the values so far.
abbrev pub invariant-loop-item : goal.invariant-loop-item
invariant-loop-item g l = map view l.values.items ≡ map g.T.Json.json (take l.item-index l.items)
