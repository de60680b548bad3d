use Rattle.std.proofs.Common.{◌≡◌, map, take}
use Rattle.c_interface.specs.Making.{dependency_in}
use Rattle.c_interface.proofs.making.dependencies_in.Given as goal

abbrev pub invariant-loop-row : goal.invariant-loop-row
invariant-loop-row g l = l.dependencies.items ≡ map dependency_in (take l.row-index l.rows)
