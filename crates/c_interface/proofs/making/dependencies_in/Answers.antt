use Rattle.std.proofs.Common.{refl}
use Rattle.c_interface.proofs.Parts.{wide_dependency}
use Rattle.c_interface.proofs.making.dependencies_in.Goals as goal

pub returns-in_err-dependency_in-clause-none : goal.returns-in_err-dependency_in-clause-none
returns-in_err-dependency_in-clause-none g c = λ none each.
    wide_dependency c.args.rows.now c.loop-row.row-index _ c.loop-row-test.true (c.in_err-dependency_in.ensures.none refl) each
