use Rattle.std.proofs.Common.{◌≡◌, map}
use Rattle.std.specs.List.{flat_map, range_with_len}
use Rattle.serde_json.specs.View.{view}
use Rattle.device_texts.specs.Json.{member, number_json}
use Rattle.device_texts.proofs.json.set_numbers.Given as goal

-- There are the numbers of the images so far that are in the set.
abbrev pub invariant-loop-image : goal.invariant-loop-image
invariant-loop-image l =
    map view l.numbers.items ≡ map number_json (flat_map (member l.set) (range_with_len 0 l.image))
