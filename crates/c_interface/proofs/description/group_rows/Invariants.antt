use Rattle.c_interface.specs.Description.{IsGroupRow, no_group}
use Rattle.c_interface.proofs.Rows.{AreFilledTo}
use Rattle.c_interface.proofs.description.group_rows.Given as goal

abbrev pub invariant-loop-i : goal.invariant-loop-i
invariant-loop-i l = AreFilledTo IsGroupRow no_group 4 l.i l.groups l.rows
