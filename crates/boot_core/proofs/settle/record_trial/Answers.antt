use Rattle.std.proofs.Common.{rules, inl, inr, refl, subst, sym, ⊎_elim}
use Rattle.boot_core.specs.FromSettle.{IsTrialLogged}
use Rattle.std.proofs.lemmas.Result.{on_ok_weaker}
use Rattle.flash_contents.proofs.Ending.{trial_either, trial_ok}
use Rattle.boot_core.proofs.Records.{fits_trial}
use Rattle.boot_core.proofs.settle.record_trial.Goals as goal

pub append-requires-clause-fits : goal.append-requires-clause-fits
append-requires-clause-fits g c =
    fits_trial c.args.map.now _ c.args.state.now c.args.left c.requires.recorded.read c.requires.recorded.kind c.requires.few

pub returns : goal.returns
returns g c = λ floors. record {
  outside = search rules;
  stands = trial_either c.args.map.now _ _ _ c.args.left c.requires.recorded.read
      c.append.ensures.outside c.append.ensures.either;
  either = ⊎_elim (λ same. inl same) (λ said. inr (_, said, refl)) c.append.ensures.either;
  says = on_ok_weaker c.append.result (λ recorded plain. subst IsTrialLogged (sym recorded) (refl, refl))
      c.append.ensures.ok;
  ok = on_ok_weaker c.append.result
      (λ recorded. trial_ok c.args.map.now _ _ _ c.args.left c.requires.recorded.read c.append.ensures.outside recorded)
      c.append.ensures.ok;
  erases = search rules;
  journal = c.append.ensures.journal;
  ends = search rules;
}
