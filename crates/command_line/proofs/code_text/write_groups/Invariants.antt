use Rattle.std.proofs.Common.{◌≡◌, ◌++◌, map, string_bytes, take}
use Rattle.std.specs.List.{flat_map}
use Rattle.command_line.specs.CodeList.{group_of, group_text}
use Rattle.command_line.proofs.code_text.write_groups.Given as goal

-- The lines of the groups so far follow the old text.
abbrev pub invariant-loop-group : goal.invariant-loop-group
invariant-loop-group l =
    string_bytes l.text ≡ string_bytes l.fn.text ++ flat_map group_text (map group_of (take l.group-index l.groups))
