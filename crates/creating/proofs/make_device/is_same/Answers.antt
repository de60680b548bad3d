use Rattle.std.proofs.Common.{sym, ◌∙◌}
use Rattle.std.proofs.lemmas.Bool.{and_parts, eqb-true}
use Rattle.std.specs.Cmp.Lexicographic.{same_text}
use Rattle.creating.proofs.make_device.is_same.Goals as goal

-- Maps and identities are equal if they are field by field.
pub returns-then-eq-2 : goal.returns-then-eq-2
returns-then-eq-2 c = λ same.
    let one = c.args.one.now in
    let other = c.args.other.now in
    let map = and_parts _ _ (sym c.eq.ensures ∙ c.if-eq.true) in
    let layout = and_parts _ _ map.1 in
    let identity = and_parts _ _ (sym c.eq-then-eq.ensures ∙ c.if-eq-2.true) in
    let ids = and_parts _ _ identity.1 in
    record {
      sector_size = eqb-true one.map.sector_size other.map.sector_size map.0;
      images = eqb-true one.map.images other.map.images layout.0;
      sectors = same_text one.map.sectors other.map.sectors (sym layout.1);
      vendor = same_text one.identity.vendor other.identity.vendor (sym identity.0);
      class = same_text one.identity.class other.identity.class (sym ids.0);
      identified = eqb-true one.identity.images other.identity.images ids.1;
      trial_boots = eqb-true one.trial_boots other.trial_boots same;
    }
