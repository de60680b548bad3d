use Rattle.std.proofs.Common.{refl, ◌≡◌, ◌+◌, Err, ap, inl, inr, sym, subst, ◌∙◌}
use Rattle.machine.specs.declared.event.Event.TheVariants as event
use Rattle.upload.specs.View.{view}
use Rattle.upload.proofs.OpenOnes.{open_none}
use Rattle.upload.proofs.Ends.{err_passed}
use Rattle.machine.specs.Boots.{is_answer}
use Rattle.flash_contents.specs.Passing.{StepsTo}
use Rattle.machine.specs.declared.error.Fault.TheVariants as no
use Rattle.flash_contents.proofs.Stepping.{steps_boot}
use Rattle.boot_core.specs.Answers.{IsBootReply}
use Rattle.boot_core.specs.Device.{made, seen}
use Rattle.boot_core.proofs.Stopping.{boot_stopped, ended_ends, not_empty, not_uncut, stopped_ends, stopped_worn, unprovisioned}
use Rattle.boot_core.specs.Over.{IsIdleTrial}
use Rattle.boot_core.specs.Wear.{DoesNothing, IsWorn}
use Rattle.flash_contents.specs.Starting.{StartsBy}
use Rattle.flash_model.proofs.Ending.{no_error}
use Rattle.boot_core.proofs.Stops.{flash_again, flash_idle, flash_off, flash_over, flash_starts, flash_stopped, flash_stopped_it, flash_unanswered}
use Rattle.decision.specs.Places.{read_as}
use Rattle.boot_core.specs.Places.{reply_in}
use Rattle.boot_core.proofs.boots.boot_device_into.Goals as goal

pub returns : goal.returns
returns g c = record {
  layout = c.boot.ensures.layout;
  opens = open_none (view c.args.map.now (g.F.Flash.chip c.boot.new.flash)) c.new.result.sessions c.new.ensures;
  closed = c.new.ensures;
  steps = λ identity on. subst
      (λ reply. StepsTo (made c.args.map.now identity (c.args.left + 1))
      (seen (g.F.Flash.chip c.args.flash.now) c.args.uploads.now.sessions c.args.is_booted.now)
      (seen (g.F.Flash.chip c.boot.new.flash) c.new.result.sessions c.conclude.new.is_booted) event.Boot reply)
      (sym c.conclude.ensures.is)
      (steps_boot (made c.args.map.now identity (c.args.left + 1)) _ _ _ _ _ _ _ c.conclude.ensures.up c.new.ensures
      c.in_ok-outcome.ensures.ok);
  ok = c.conclude.ensures.answers;
  up = c.conclude.ensures.up ∙ sym (ap is_answer c.conclude.ensures.is);
  told = inl (subst (λ reply. IsBootReply reply) (sym c.conclude.ensures.is)
      c.in_ok-outcome.ensures.told);
  answers = λ on uncut s stands sound.
      ap is_answer c.conclude.ensures.is ∙ c.in_ok-outcome.ensures.answers s stands sound;
  empty = c.boot.ensures.empty;
  journal = c.boot.ensures.journal;
  refused = λ on none.
      unprovisioned (read_as (reply_in c.boot.new.table c.boot.new.report) c.conclude.result) c.conclude.ensures.answers
      (c.conclude.ensures.is ∙ c.in_ok-outcome.ensures.refused none);
  erases = λ on uncut state s stood stands. subst
      (λ reply. IsWorn c.args.map.now state.kind state.mask (g.F.Flash.chip c.args.flash.now)
      (g.F.Flash.chip c.boot.new.flash) reply)
      (sym c.conclude.ensures.is) (c.in_ok-outcome.ensures.erases state s stood stands);
  stops = λ state finding permanent stood is.
      c.in_ok-outcome.ensures.stops state finding permanent stood (sym c.conclude.ensures.is ∙ is);
  idle = λ state stood kind takes. c.in_ok-outcome.ensures.idle state stood kind
      (subst (λ reply. DoesNothing reply) c.conclude.ensures.is takes);
  over = λ on state stood kind nothing. subst
      (λ reply. IsIdleTrial c.args.map.now state (g.F.Flash.chip c.args.flash.now) (g.F.Flash.chip c.boot.new.flash) reply)
      (sym c.conclude.ensures.is) (c.in_ok-outcome.ensures.over state stood kind
      (subst (λ reply. DoesNothing reply) c.conclude.ensures.is nothing));
  again = λ state set more stood kind told.
      c.in_ok-outcome.ensures.again state set more stood kind (sym c.conclude.ensures.is ∙ told);
  starts = subst (λ reply. StartsBy (view c.args.map.now (g.F.Flash.chip c.boot.new.flash)) reply)
      (sym c.conclude.ensures.is) c.in_ok-outcome.ensures.starts;
  off = λ off. absurd (no_error _ _ (c.in_ok-outcome.ensures.off off));
  ends = ended_ends _ _ _ _ _ _ _ _ c.conclude.ensures.is c.in_ok-outcome.ensures.told c.in_ok-outcome.ensures.ends;
}

pub returns-in_err-outcome : goal.returns-in_err-outcome
returns-in_err-outcome g c =
    let error = c.in_err-outcome.field-0.0 in
    let old = g.F.Flash.chip c.args.flash.now in
    let new = g.F.Flash.chip c.boot.new.flash in
    let ends = c.in_err-outcome.ensures.ends in
    let passed : c.from_residual.result ≡ Err (no.Flash error) = err_passed _ _ c.from_residual.ensures.1 in
    rw passed (record {
      layout = c.boot.ensures.layout;
      opens = open_none (view c.args.map.now new) c.new.result.sessions c.new.ensures;
      closed = c.new.ensures;
      steps = λ identity on.
          boot_stopped (made c.args.map.now identity (c.args.left + 1)) _ _ _ _ _ c.new.ensures c.boot.ensures.stands
          error ends on;
      ok = tt;
      up = sym (flash_unanswered error);
      told = inr (flash_stopped_it error);
      answers = λ on uncut s stands sound. absurd (not_uncut old new error ends on uncut);
      empty = c.boot.ensures.empty;
      journal = c.boot.ensures.journal;
      refused = λ on none. not_empty old new error ends on (c.boot.ensures.empty none) (Err (no.Flash error));
      erases = λ on uncut state s stood stands. stopped_worn c.args.map.now state old new error ends on uncut;
      stops = λ state finding permanent stood is.
          flash_stopped c.args.map.now state old new error finding permanent is;
      idle = λ state stood kind nothing. flash_idle error old new ends nothing;
      over = λ on state stood kind nothing. flash_over error c.args.map.now state old new ends on nothing;
      again = λ state set more stood kind told. flash_again error set more told;
      starts = flash_starts error (view c.args.map.now new);
      off = λ off. flash_off error (no.Flash error) old new refl ends (c.in_err-outcome.ensures.off off);
      ends = stopped_ends old new _ _ _ _ c.new.ensures refl error ends;
    })
