use Rattle.std.proofs.Common.{false, true, ◌∙◌, refl, subst}
use Rattle.upload.specs.View.{view}
use Rattle.flash_contents.specs.Reading.{AreSetOk}
use Rattle.flash_contents.proofs.Trying.{passage_again}
use Rattle.boot_core.specs.FromTrial.{IsGoingOn}
use Rattle.boot_core.proofs.Passed.{then_ok}
use Rattle.boot_core.proofs.trial.decide_trial.Goals as goal

pub returns-then-again : goal.returns-then-again
returns-then-again g c =
    let map = c.args.map.now in
    let old = g.F.Flash.chip c.args.flash.now in
    let state = c.args.state.now in
    let unconfirmed : AreSetOk (view map old) state.mask false =
    subst (λ b. AreSetOk (view map old) state.mask b) c.if-confirmed.false c.in_ok-confirmed.ensures.ok in
    let goes : IsGoingOn map state.left old true = subst (λ b. IsGoingOn map state.left old b) c.if-again.true
    (rw c.is_all_confirmed.ensures.same at c.in_ok-again.ensures.ok) in
    record {
      same = c.goes_on.ensures.same ∙ c.is_all_confirmed.ensures.same;
      looks = (unconfirmed, goes.1);
      left = goes.0;
      ok = passage_again map old state false c.requires.read unconfirmed refl goes.0 goes.1;
      ends = then_ok c.in_ok-confirmed.ensures.ends c.in_ok-again.ensures.ends;
    }
