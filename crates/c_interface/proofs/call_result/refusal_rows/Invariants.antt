use Rattle.c_interface.specs.CallResult.{IsRefusalRow, no_refusal}
use Rattle.c_interface.proofs.Rows.{AreFilledTo}
use Rattle.c_interface.proofs.call_result.refusal_rows.Given as goal

abbrev pub invariant-loop-i : goal.invariant-loop-i
invariant-loop-i l = AreFilledTo IsRefusalRow no_refusal 8 l.i l.refusals l.rows
