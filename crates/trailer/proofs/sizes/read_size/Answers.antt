use Rattle.std.proofs.Common.{arith}
use Rattle.trailer.proofs.SizeUnits.{size_is}
use Rattle.trailer.proofs.sizes.read_size.Goals as goal

pub returns : goal.returns
returns g c = grind (arith, size_is)
