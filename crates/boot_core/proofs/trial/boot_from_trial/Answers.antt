use Rattle.std.proofs.Common.{◌≡◌, ◌+◌, ◌∙◌, ap, arith, inl, inr, refl, subst, sym}
use Rattle.std.proofs.lemmas.Result.{IfOk-weaker}
use Rattle.set_log.specs.Log.{state_of}
use Rattle.machine.specs.Device.{DeviceState}
use Rattle.upload.specs.View.{view}
use Rattle.flash_contents.specs.Holding.{Stands}
use Rattle.flash_contents.specs.declared.finding.Passage.TheVariants.{Over, Back, Again, Stays, Refused}
use Rattle.decision.specs.Places.{read_as}
use Rattle.boot_core.specs.FromTrial.{IsLooked}
use Rattle.boot_core.specs.Places.{reply_in}
use Rattle.boot_core.specs.Wear.{DoesNothing, TriesNone}
use Rattle.boot_core.proofs.Booted.{boot_as, boot_gives, boot_wider, recorded_moves, trial_here}
use Rattle.boot_core.proofs.OnMap.{layout_same}
use Rattle.boot_core.proofs.Trying.{again_is, never_again, refused_again, stays_none}
use Rattle.set_log.specs.declared.state.RecordKind.TheVariants as log
use Rattle.boot_core.proofs.Asking.{asks_begins, asks_few}
use Rattle.boot_core.proofs.trial.boot_from_trial.Goals as goal

pub boot_over-requires-clause-recorded : goal.boot_over-requires-clause-recorded
boot_over-requires-clause-recorded g c = record {
  laid_out = rw c.decide_trial.ensures.same c.requires.recorded.laid_out;
  read = ap (λ chip. state_of c.args.map.now chip) c.decide_trial.ensures.same ∙ c.requires.recorded.read;
}

pub boot_back-requires : goal.boot_back-requires
boot_back-requires g c = record {
  laid_out = rw c.decide_trial.ensures.same c.requires.recorded.laid_out;
  read = ap (λ chip. state_of c.args.map.now chip) c.decide_trial.ensures.same ∙ c.requires.recorded.read;
  kind = c.requires.recorded.kind;
}

pub boot_again-requires-clause-recorded : goal.boot_again-requires-clause-recorded
boot_again-requires-clause-recorded g c = record {
  laid_out = rw c.decide_trial.ensures.same c.requires.recorded.laid_out;
  read = ap (λ chip. state_of c.args.map.now chip) c.decide_trial.ensures.same ∙ c.requires.recorded.read;
  kind = c.requires.recorded.kind;
}

pub boot_again-requires-clause-intact : goal.boot_again-requires-clause-intact
boot_again-requires-clause-intact g c = rw c.decide_trial.ensures.same
    (subst (λ p. IsLooked (view c.args.map.now (g.F.Flash.chip c.args.flash.now)) c.args.state.now p) c.in-Again.is
    c.in_ok-decide_trial.ensures.looks).1

pub returns-in-Over : goal.returns-in-Over
returns-in-Over g c =
    let booted = rw c.decide_trial.ensures.same at c.boot_over.ensures in
    let here = trial_here c.args.map.now _ c.args.state.now _ Over c.requires.recorded.read c.requires.recorded.kind
    c.in_ok-decide_trial.ensures.ok c.in-Over.is in
    let looked = subst (λ p. IsLooked (view c.args.map.now (g.F.Flash.chip c.args.flash.now)) c.args.state.now p)
    c.in-Over.is c.in_ok-decide_trial.ensures.looks in
    record {
      boot = boot_as here (λ reply worn. λ s stands. worn s (here s stands)) booted.boot;
      idle = IfOk-weaker (read_as (reply_in c.boot_over.new.table c.boot_over.new.report) c.boot_over.result) _ _
          (λ reply idle. λ nothing. inl (record { confirmed = looked; recorded = idle nothing })) booted.idle;
      again = IfOk-weaker (read_as (reply_in c.boot_over.new.table c.boot_over.new.report) c.boot_over.result) _ _
          (λ reply fresh. λ set left is. absurd (subst (λ r. TriesNone r) is fresh)) booted.fresh;
      journal = asks_begins c.args.map.now c.args.state.now _ _ 496 log.Trial c.requires.recorded.kind refl
          (omega arith) booted.begins;
    }

pub returns-in-Back : goal.returns-in-Back
returns-in-Back g c =
    let here = trial_here c.args.map.now _ c.args.state.now _ Back c.requires.recorded.read c.requires.recorded.kind
    c.in_ok-decide_trial.ensures.ok c.in-Back.is in
    let booted = rw c.decide_trial.ensures.same at (c.boot_back.ensures c.args.table.now c.args.report.now) in
    record {
      boot = boot_wider (recorded_moves c.args.map.now _ c.args.state.now c.requires.recorded.read)
          c.requires.recorded.laid_out
          (boot_as here (λ reply worn. λ s stands. worn s (here s stands)) (booted.boot.boot (c.args.left + 1)));
      idle = IfOk-weaker (read_as (reply_in c.args.table.now c.args.report.now) c.boot_back.result) _ _
          (λ reply is. λ nothing. absurd (subst (λ r. DoesNothing r) is nothing)) booted.is;
      again = IfOk-weaker (read_as (reply_in c.args.table.now c.args.report.now) c.boot_back.result) _ _
          (λ reply is. λ set left e. absurd (never_again c.args.state.now.mask set left (sym is ∙ e))) booted.is;
      journal = booted.journal;
    }

pub returns-in-Again : goal.returns-in-Again
returns-in-Again g c =
    let here = trial_here c.args.map.now _ c.args.state.now _ Again c.requires.recorded.read c.requires.recorded.kind
    c.in_ok-decide_trial.ensures.ok c.in-Again.is in
    let booted = rw c.decide_trial.ensures.same at (c.boot_again.ensures c.args.table.now c.args.report.now) in
    record {
      boot = boot_wider (recorded_moves c.args.map.now _ c.args.state.now c.requires.recorded.read)
          c.requires.recorded.laid_out
          (boot_as here (λ reply worn. λ s stands. worn) (booted.boot.boot (c.args.left + 1)));
      idle = IfOk-weaker (read_as (reply_in c.args.table.now c.args.report.now) c.boot_again.result) _ _
          (λ reply acts. λ nothing. absurd (acts nothing)) booted.acts;
      again = booted.again;
      journal = asks_few c.args.map.now c.args.state.now _ _ 120 booted.journal (omega arith);
    }

pub returns-in-Stays : goal.returns-in-Stays
returns-in-Stays g c =
    let map = c.args.map.now in
    let old = g.F.Flash.chip c.args.flash.now in
    let state = c.args.state.now in
    let looked = subst (λ p. IsLooked (view map old) state p) c.in-Stays.is c.in_ok-decide_trial.ensures.looks in
    let never : (s : DeviceState) → Stands map old s → ⊥ = λ s stands. (trial_here map old state _ Stays
    c.requires.recorded.read c.requires.recorded.kind c.in_ok-decide_trial.ensures.ok c.in-Stays.is s stands).1 in
    let none : state.left ≡ 0 = stays_none state.left _ c.in-Stays.is c.in_ok-decide_trial.ensures.left in
    rw c.decide_trial.ensures.same (record {
      boot = boot_gives (layout_same c.requires.recorded.laid_out refl) (λ s stands. absurd (never s stands))
          (λ s stands. absurd (never s stands)) (λ s stands. absurd (never s stands)) tt looked.1
          (rw c.decide_trial.ensures.same at c.in_ok-decide_trial.ensures.ends);
      idle = λ nothing. absurd nothing;
      again = λ set left is. again_is map state old old state.mask 0 set left is
          (refl, inr (none, refl, refl, looked.2));
      journal = asks_few map state old old 0 (omega arith) (omega arith);
    })

pub returns-in-Refused : goal.returns-in-Refused
returns-in-Refused g c =
    let map = c.args.map.now in
    let old = g.F.Flash.chip c.args.flash.now in
    let state = c.args.state.now in
    let looked = subst (λ p. IsLooked (view map old) state p) c.in-Refused.is c.in_ok-decide_trial.ensures.looks in
    let never : (s : DeviceState) → Stands map old s → ⊥ = λ s stands. (trial_here map old state _
    (Refused c.in-Refused.image) c.requires.recorded.read c.requires.recorded.kind c.in_ok-decide_trial.ensures.ok
    c.in-Refused.is s stands).1 in
    rw c.decide_trial.ensures.same (record {
      boot = boot_gives (layout_same c.requires.recorded.laid_out refl) (λ s stands. absurd (never s stands))
          (λ s stands. absurd (never s stands)) (λ s stands. absurd (never s stands)) tt tt
          (rw c.decide_trial.ensures.same at c.in_ok-decide_trial.ensures.ends);
      idle = λ nothing. inr (record {
        same = refl;
        unconfirmed = looked.0;
        lost = looked.2;
        lowest = (c.in-Refused.image, looked.1, refl);
      });
      again = λ set left is. absurd (refused_again c.in-Refused.image set left is);
      journal = asks_few map state old old 0 (omega arith) (omega arith);
    })
