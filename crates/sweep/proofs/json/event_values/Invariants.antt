use Rattle.std.proofs.Common.{◌≡◌, map, take}
use Rattle.serde_json.specs.View.{view}
use Rattle.sweep.specs.Findings.{numbered}
use Rattle.sweep.specs.FoundJson.{place_json}
use Rattle.sweep.proofs.json.event_values.Given as goal

-- There are the objects of the events so far.
abbrev pub invariant-loop-place : goal.invariant-loop-place
invariant-loop-place l =
    map view l.values.items ≡ numbered (place_json l.found) 0 (take l.place l.events)
