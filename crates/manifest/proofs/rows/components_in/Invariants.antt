use Rattle.std.proofs.Common.{◌≡◌, map, take}
use Rattle.manifest.specs.Rows.{component_in}
use Rattle.manifest.proofs.rows.components_in.Given as goal

abbrev pub invariant-loop-row : goal.invariant-loop-row
invariant-loop-row l = l.components.items ≡ map component_in (take l.row-index l.rows)
