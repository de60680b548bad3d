use Rattle.std.proofs.Common.{◌≡◌, map, take}
use Rattle.serde_json.specs.View.{view}
use Rattle.sweep.specs.Findings.{numbered}
use Rattle.sweep.specs.FoundJson.{version_json}
use Rattle.sweep.proofs.json.version_values.Given as goal

-- There are the objects of the images so far.
abbrev pub invariant-loop-image : goal.invariant-loop-image
invariant-loop-image l =
    map view l.values.items ≡ numbered version_json 0 (take l.image l.versions)
