use Rattle.trailer.proofs.SizeUnits.{size_written}
use Rattle.trailer.proofs.OwnFields.{own_size}
use Rattle.trailer.proofs.Places.{units_alone}
use Rattle.std.proofs.Common.{arith}
use Rattle.trailer.proofs.sizes.write_size.Goals as goal

pub returns : goal.returns
returns g c = grind (arith, units_alone, own_size, size_written)
