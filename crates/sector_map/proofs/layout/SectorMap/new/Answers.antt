use Rattle.std.proofs.Common.{rules, length}
use Rattle.sector_map.proofs.MapSizes.{of_table, passed}
use Rattle.sector_map.proofs.layout.SectorMap.new.Goals as goal

pub invariant_of-result : goal.invariant_of-result
invariant_of-result c = record {
  is_map = of_table c.args.sector_size
      (length c.args.sectors_per_image.now) c.args.sectors_per_image.now c.table_of.result c.table_of.ensures
      (passed c.args.sector_size c.args.sectors_per_image.now (search rules) (search rules) (search rules)
      (search rules));
}
