use Rattle.std.proofs.Common.{◌≡◌, map, take}
use Rattle.command_line.specs.CodeList.{group_of}
use Rattle.serde_json.specs.View.{view}
use Rattle.inspecting.specs.Json.{group_json}
use Rattle.inspecting.proofs.json.codes.group_values.Given as goal

-- There are the objects of the groups so far.
abbrev pub invariant-loop-group : goal.invariant-loop-group
invariant-loop-group l =
    map view l.values.items ≡ map group_json (map group_of (take l.group-index l.groups))
