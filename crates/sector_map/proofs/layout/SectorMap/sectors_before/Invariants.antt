use Rattle.std.proofs.Common.{◌≡◌}
use Rattle.sector_map.specs.Sizes.{before}
use Rattle.sector_map.proofs.layout.SectorMap.sectors_before.Given as goal

abbrev pub invariant-loop-i : goal.invariant-loop-i
invariant-loop-i l = l.at ≡ before l.self.sectors l.i
