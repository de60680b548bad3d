use Rattle.std.proofs.Common.{rules}
use Rattle.slice_flash.proofs.Indexed.{bit_is_set, bit_stays_unset}
use Rattle.slice_flash.proofs.index.Index.set.Goals as goal

pub returns-clause-sector : goal.returns-clause-sector
returns-clause-sector c = bit_is_set c.args.self.now.touched c.args.sector (search rules)

pub returns-clause-others : goal.returns-clause-others
returns-clause-others c = λ other unset. bit_stays_unset c.args.self.now.touched c.args.sector other (search rules) unset
