use Rattle.std.proofs.Common.{◌≡◌, map, take}
use Rattle.command_line.specs.CodeList.{entry_of}
use Rattle.serde_json.specs.View.{view}
use Rattle.inspecting.specs.Json.{entry_json}
use Rattle.inspecting.proofs.json.codes.code_values.Given as goal

-- There are the objects of the codes so far.
abbrev pub invariant-loop-code : goal.invariant-loop-code
invariant-loop-code l =
    map view l.values.items ≡ map entry_json (map entry_of (take l.code-index l.codes))
