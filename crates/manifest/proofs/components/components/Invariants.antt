use Rattle.std.proofs.Common.{map, take}
use Rattle.std.specs.List.{AllZip}
use Rattle.serde_json.specs.View.{view}
use Rattle.manifest.specs.Component.{IsComponent}
use Rattle.manifest.proofs.components.components.Given as goal

-- The components so far are those of the values so far.
abbrev pub invariant-loop-value : goal.invariant-loop-value
invariant-loop-value l = AllZip IsComponent (map view (take l.value-index l.values)) l.components.items
