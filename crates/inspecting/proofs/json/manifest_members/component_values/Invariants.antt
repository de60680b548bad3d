use Rattle.std.proofs.Common.{◌≡◌, map, take}
use Rattle.serde_json.specs.View.{view}
use Rattle.inspecting.specs.Json.{component_json}
use Rattle.inspecting.proofs.json.manifest_members.component_values.Given as goal

-- There are the objects of the components so far.
abbrev pub invariant-loop-component : goal.invariant-loop-component
invariant-loop-component l = map view l.values.items ≡ map component_json (take l.component-index l.components)
