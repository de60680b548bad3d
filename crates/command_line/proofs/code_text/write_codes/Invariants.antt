use Rattle.std.proofs.Common.{◌≡◌, ◌++◌, map, string_bytes, take}
use Rattle.std.specs.List.{flat_map}
use Rattle.command_line.specs.CodeList.{entry_of, entry_text}
use Rattle.command_line.proofs.code_text.write_codes.Given as goal

-- The lines of the codes so far follow the old text.
abbrev pub invariant-loop-code : goal.invariant-loop-code
invariant-loop-code l =
    string_bytes l.text ≡ string_bytes l.fn.text ++ flat_map entry_text (map entry_of (take l.code-index l.codes))
