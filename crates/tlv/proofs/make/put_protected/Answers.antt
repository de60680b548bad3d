use Rattle.std.proofs.Common.{◌≡◌, sym, ◌∙◌, arith}
use Rattle.tlv.specs.Making.{area_size_of, protected_entries_of}
use Rattle.tlv.specs.Writing.{puts_both, puts_nothing}
use Rattle.tlv.proofs.MakingSteps.{absent_spelled, fits_absent, protected_spelled, puts_same}
use Rattle.tlv.proofs.make.put_protected.Goals as goal

pub returns-then-size-eq0 : goal.returns-then-size-eq0
returns-then-size-eq0 c =
    let spec = c.args.spec.now in
    let none : area_size_of (protected_entries_of spec) ≡ 0 =
    sym c.protected_size-size.ensures ∙ c.if-size-eq0.true in
    let fits = fits_absent spec.counter spec.dependencies.now _ none in
    record {
      area = puts_same _ _ (puts_nothing c.args.place c.args.buffer.now) (absent_spelled spec none);
      dependencies = fits.0;
      groups = fits.1;
      counter = fits.2;
    }

pub returns-clause-area : goal.returns-clause-area
returns-clause-area c =
    puts_same _ _
    (puts_both _ _ _ _ _ _ _ _
    (puts_both _ _ _ _ _ _ _ _
    (puts_both _ _ _ _ _ _ _ _ c.put_head-place.ensures c.put_counter-place.ensures.entries)
    c.put_dependencies-place.ensures.entries)
    c.put_groups.ensures.entries)
    (protected_spelled c.args.spec.now c.protected_size-size.result c.protected_size-size.ensures (omega arith))
