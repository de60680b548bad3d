use Rattle.std.proofs.Common.{◌≡◌, map, take}
use Rattle.serde_json.specs.View.{view}
use Rattle.device_texts.specs.Json.{reported_images}
use Rattle.device_texts.proofs.json.report.reported_images.Given as goal

-- There are the objects of the images so far.
abbrev pub invariant-loop-number : goal.invariant-loop-number
invariant-loop-number l = map view l.values.items ≡ reported_images l.is_taken 0 (take l.number l.images)
