use Rattle.machine.proofs.Unique.{one_set}
use Rattle.machine.proofs.laws.reports_of_a_state_take_the_same_set.Goals as goal

pub returns : goal.returns
returns c = one_set
