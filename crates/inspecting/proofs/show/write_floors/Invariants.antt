use Rattle.std.proofs.Common.{◌≡◌, ◌++◌, string_bytes, take}
use Rattle.std.specs.List.{flat_map}
use Rattle.inspecting.specs.StateText.{floor_line}
use Rattle.inspecting.proofs.show.write_floors.Given as goal

-- The lines of the images so far follow the old text.
abbrev pub invariant-loop-it : goal.invariant-loop-it
invariant-loop-it l =
    string_bytes l.text ≡ string_bytes l.fn.text ++ flat_map floor_line (take l.it-index l.floors)
