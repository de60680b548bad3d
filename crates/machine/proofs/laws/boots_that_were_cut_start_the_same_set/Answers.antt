use Rattle.machine.proofs.Answered.{cut_boots}
use Rattle.machine.proofs.laws.boots_that_were_cut_start_the_same_set.Goals as goal

pub returns : goal.returns
returns c = cut_boots
