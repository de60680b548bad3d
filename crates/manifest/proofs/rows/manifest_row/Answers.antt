use Rattle.std.proofs.Common.{◌∙◌, refl, sym, arith, rules}
use Rattle.std.proofs.lemmas.Option.{slice_get_within}
use Rattle.manifest.proofs.ReadBack.{components_in_rows}
use Rattle.manifest.proofs.rows.manifest_row.Goals as goal

pub returns-clause-read_back : goal.returns-clause-read_back
returns-clause-read_back c = record {
  few = search rules;
  sequence = refl;
  components = sym c.as_slice-given.ensures.value
      ∙ components_in_rows c.as_slice-given.result.now c.loop-i.components
      (λ k component at. let within = slice_get_within c.as_slice-given.result.now k component at in
      c.loop-i.invariant.each k component (omega (arith, within, c.loop-i-test.false)) at);
}
