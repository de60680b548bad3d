use Rattle.std.proofs.Common.{arith}
use Rattle.std.proofs.lemmas.Grind.{elements}
use Rattle.chooser.proofs.needs.needs_reason.Goals as goal

pub returns : goal.returns
returns c = grind (arith, elements)

pub returns-in_err-entry : goal.returns-in_err-entry
returns-in_err-entry c = grind (arith, elements)

pub returns-in_err-image : goal.returns-in_err-image
returns-in_err-image c = grind (arith, elements)
