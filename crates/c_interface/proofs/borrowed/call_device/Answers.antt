use Rattle.std.proofs.Common.{refl, subst, inl, inr, arith}
use Rattle.flash_model.specs.Chip.{Fixed}
use Rattle.c_interface.specs.Calls.{StepsOn}
use Rattle.c_interface.proofs.Asked.{same_asked}
use Rattle.c_interface.proofs.borrowed.call_device.Goals as goal

pub returns-then-cuts-gt-MOST_CUTS-clause-refused : goal.returns-then-cuts-gt-MOST_CUTS-clause-refused
returns-then-cuts-gt-MOST_CUTS-clause-refused g c = (
  inr (record {
    number_is = refl;
    many = omega (arith, c.if-cuts-gt-MOST_CUTS.true);
    checked = c.in-Ok.checked;
    is_checked = c.in-Ok.ensures.checked;
  }),
  refl,
  refl,
)

pub returns-in-Err-clause-refused : goal.returns-in-Err-clause-refused
returns-in-Err-clause-refused g c = (inl c.in-Err.ensures.refused, refl, refl)

pub returns-clause-outcome : goal.returns-clause-outcome
returns-clause-outcome g c = record {
  checked = c.in-Ok.checked;
  is_checked = c.in-Ok.ensures.checked;
  few = omega (arith, c.if-cuts-gt-MOST_CUTS.false);
  steps = subst (λ (asked : Fixed). StepsOn c.in-Ok.checked asked (g.C.Call.call c.args.call.now) c.args.bytes.now c.args.saved.now
      c.run_over_bytes.new.bytes c.run_over_bytes.new.saved (g.C.Answer.Answer.reply c.run_over_bytes.new.answer) c.run_over_bytes.result)
      (same_asked c.args.cuts.now c.table_of-table.result c.table_of-table.ensures
      (omega (arith, c.if-cuts-gt-MOST_CUTS.false, c.table_of-table.type_inv))) c.run_over_bytes.ensures;
}
