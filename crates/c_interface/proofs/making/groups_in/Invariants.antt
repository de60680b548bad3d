use Rattle.std.proofs.Common.{◌≡◌, map, take}
use Rattle.std.specs.List.{AllByRecursion}
use Rattle.c_interface.specs.Making.{HasFewAlternatives, group_in}
use Rattle.c_interface.proofs.making.groups_in.Given as goal

abbrev pub invariant-loop-row : goal.invariant-loop-row
invariant-loop-row l = record {
  few : AllByRecursion HasFewAlternatives (take l.row-index l.rows);
  each : l.groups.items ≡ map group_in (take l.row-index l.rows);
}
