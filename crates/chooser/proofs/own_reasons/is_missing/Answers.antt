use Rattle.std.proofs.Common.{arith}
use Rattle.std.proofs.lemmas.Grind.{elements}
use Rattle.chooser.proofs.own_reasons.is_missing.Goals as goal

pub returns : goal.returns
returns c = grind (arith, elements)
