use Rattle.std.proofs.Common.{arith}
use Rattle.std.proofs.lemmas.Grind.{elements}
use Rattle.chooser.proofs.needs.has_unmet.Goals as goal

pub returns-in-Entry : goal.returns-in-Entry
returns-in-Entry c = grind (arith, elements)

pub returns-in_default : goal.returns-in_default
returns-in_default c = grind (arith, elements)

pub returns-in-None : goal.returns-in-None
returns-in-None c = grind (arith, elements)

pub returns-in-None-2 : goal.returns-in-None-2
returns-in-None-2 c = grind (arith, elements)
