use Rattle.machine.proofs.Unique.{one_table}
use Rattle.machine.proofs.laws.tables_of_a_state_are_equal.Goals as goal

pub returns : goal.returns
returns c = one_table
