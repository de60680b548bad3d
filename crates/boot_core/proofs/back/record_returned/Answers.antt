use Rattle.std.proofs.Common.{rules, inl, inr, refl, ⊎_elim}
use Rattle.std.proofs.lemmas.Result.{on_ok_weaker}
use Rattle.flash_contents.proofs.Returning.{return_either, return_ok}
use Rattle.boot_core.proofs.Records.{fits_steady}
use Rattle.boot_core.proofs.back.record_returned.Goals as goal

pub append-requires-clause-fits : goal.append-requires-clause-fits
append-requires-clause-fits g c = rw c.steady.ensures (fits_steady c.args.map.now _ c.args.state.now c.args.state.now.floors
    c.requires.read (λ i le. refl))

pub returns : goal.returns
returns g c = record {
  outside = search rules;
  stands = return_either c.args.map.now _ _ _ c.requires.read c.append.ensures.outside (rw c.steady.ensures at c.append.ensures.either);
  either = ⊎_elim (λ same. inl same) (λ said. inr (_, said, refl)) (rw c.steady.ensures at c.append.ensures.either);
  ok = on_ok_weaker c.append.result
      (λ recorded. return_ok c.args.map.now _ _ _ c.requires.read c.append.ensures.outside recorded)
      (rw c.steady.ensures at c.append.ensures.ok);
  erases = search rules;
  journal = c.append.ensures.journal;
  ends = search rules;
}
