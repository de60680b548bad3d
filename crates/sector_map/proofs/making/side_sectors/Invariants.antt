use Rattle.std.proofs.Common.{◌≡◌, ◌≤◌, ◌*◌, ◌^◌}
use Rattle.sector_map.specs.Sizes.{before}
use Rattle.sector_map.proofs.making.side_sectors.Given as goal

abbrev pub invariant-loop-count : goal.invariant-loop-count
invariant-loop-count l = record {
  sum : l.sectors ≡ before l.counts l.count-index;
  small : l.sectors ≤ l.count-index * 2 ^ 32;
}
