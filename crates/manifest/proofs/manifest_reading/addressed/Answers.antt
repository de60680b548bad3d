use Rattle.std.proofs.Common.{refl, rules, sym, ◌∙◌}
use Rattle.manifest.proofs.Values.{same_found}
use Rattle.manifest.proofs.manifest_reading.addressed.Goals as goal

pub returns-clause-meets : goal.returns-clause-meets
returns-clause-meets c = (
  (
    (c.if-not-has_keys.ensures.0 refl, rw c.in_ok-manifest.ensures.ok_part at c.spelled.ensures.found),
    sym c.uuid.ensures ∙ same_found _ (λ x y same. search (rules, same)) _ _ c.if-ne.ensures,
  ),
  sym c.uuid-2.ensures ∙ same_found _ (λ x y same. search (rules, same)) _ _ c.if-ne-2.ensures,
)
