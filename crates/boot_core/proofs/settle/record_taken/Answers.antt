use Rattle.std.proofs.Common.{rules, inl, inr, refl, true≢false, ⊎_elim}
use Rattle.std.proofs.lemmas.Result.{on_ok_weaker}
use Rattle.flash_contents.proofs.Ending.{good_either, good_ok}
use Rattle.boot_core.proofs.Records.{fits_steady}
use Rattle.boot_core.proofs.settle.record_taken.Goals as goal

pub append-requires-clause-fits : goal.append-requires-clause-fits
append-requires-clause-fits g c =
    rw c.steady.ensures (fits_steady c.args.map.now _ c.args.state.now c.args.floors c.requires.recorded.read c.requires.rest)

pub returns : goal.returns
returns g c = λ left. record {
  outside = search rules;
  stands = good_either c.args.map.now _ _ _ _ c.requires.recorded.read
      c.append.ensures.outside (rw c.steady.ensures at c.append.ensures.either);
  either = ⊎_elim (λ same. inl same) (λ said. inr (_, said, refl)) (rw c.steady.ensures at c.append.ensures.either);
  says = on_ok_weaker c.append.result (λ recorded plain. absurd (true≢false plain)) c.append.ensures.ok;
  ok = on_ok_weaker c.append.result
      (λ recorded. good_ok c.args.map.now _ _ _ _ c.requires.recorded.read c.append.ensures.outside recorded)
      (rw c.steady.ensures at c.append.ensures.ok);
  erases = search rules;
  journal = c.append.ensures.journal;
  ends = search rules;
}
