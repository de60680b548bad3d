use Rattle.std.proofs.Common.{refl}
use Rattle.c_interface.proofs.Parts.{bad_group}
use Rattle.c_interface.proofs.making.groups_in.Goals as goal

pub returns-in_err-group_in-clause-none : goal.returns-in_err-group_in-clause-none
returns-in_err-group_in-clause-none c = λ none few each.
    bad_group c.args.rows.now c.loop-row.row-index _ c.loop-row-test.true (c.in_err-group_in.ensures.none refl) few each
