use Rattle.std.proofs.Common.{ap, refl, subst, sym}
use Rattle.flash_model.proofs.Ending.{no_error}
use Rattle.machine.specs.declared.event.Event.TheVariants as event
use Rattle.sector_map.proofs.Parts.{laid_out_kept}
use Rattle.upload.proofs.OpenOnes.{open_none}
use Rattle.flash_contents.specs.Passing.{StepsTo}
use Rattle.flash_contents.proofs.Stepping.{steps_confirmed, steps_not_on_trial}
use Rattle.boot_core.specs.Answers.{fault_reply}
use Rattle.boot_core.specs.Device.{made, seen}
use Rattle.boot_core.proofs.Stopping.{confirm_stopped, no_own, steps_interrupted, stopped_ends}
use Rattle.boot_core.proofs.NotReady.{not_down}
use Rattle.boot_core.proofs.Stops.{flash_off}
use Rattle.boot_core.proofs.Trials.{confirm_ends, flash_not_tried, stops_tried, tried_not_interrupted}
use Rattle.boot_core.proofs.confirming.confirm_on.Goals as goal

pub returns-in-Ok-Done : goal.returns-in-Ok-Done
returns-in-Ok-Done g c =
    let found = rw c.in-Ok-Done.field-0-is at c.in-Ok-Done.ensures in
    let answered = found.answers in
    record {
      here = confirm_ends c.args.map.now c.args.image _ _ _ _ _ _ c.requires.laid_out
          c.if-not-is_booted.false found (λ identity boots. steps_confirmed
          (made c.args.map.now identity boots) _ _ _ c.args.image c.if-not-is_booted.false _ _ refl) refl refl;
      refused = tt;
      kept = tt;
      ok = answered;
      interrupted = λ up on boots. absurd (tried_not_interrupted _ _ _ answered.0 boots);
      untried = λ up on never whole. absurd (never answered.0);
      tried = λ logged is. no_error _ _ is;
    }

pub returns-in-Ok-NotOnTrial : goal.returns-in-Ok-NotOnTrial
returns-in-Ok-NotOnTrial g c =
    let found = rw c.in-Ok-NotOnTrial.field-0-is at c.in-Ok-NotOnTrial.ensures in
    let same = found.same refl in
    let all = ap (λ chip. seen chip c.args.uploads.now.sessions c.args.is_booted.now) same in
    record {
      here = confirm_ends c.args.map.now c.args.image _ _ _ _ _ _ c.requires.laid_out
          c.if-not-is_booted.false found (λ identity boots. steps_not_on_trial
          (made c.args.map.now identity boots) _ _ _ c.args.image c.if-not-is_booted.false _ _ refl) refl refl;
      refused = λ own. same;
      kept = λ own. all;
      ok = tt;
      interrupted = λ up on boots. absurd (found.answers.1 boots);
      untried = λ up on never whole. (refl, all);
      tried = λ logged is. found.answers.0 logged;
    }

pub returns-in-Ok-NotBooted : goal.returns-in-Ok-NotBooted
returns-in-Ok-NotBooted g c =
    let found = rw c.in-Ok-NotBooted.field-0-is at c.in-Ok-NotBooted.ensures in
    let same = found.same refl in
    let all = ap (λ chip. seen chip c.args.uploads.now.sessions c.args.is_booted.now) same in
    record {
      here = confirm_ends c.args.map.now c.args.image _ _ _ _ _ _ c.requires.laid_out
          c.if-not-is_booted.false found (λ identity boots keeps ends. steps_interrupted
          (made c.args.map.now identity boots) _ _ c.args.uploads.now.sessions c.args.is_booted.now
          (event.Confirm c.args.image) c.if-not-is_booted.false found.answers same) refl refl;
      refused = λ own. same;
      kept = λ own. all;
      ok = tt;
      interrupted = λ up on boots. (refl, all);
      untried = λ up on never whole. absurd (whole found.answers);
      tried = λ logged is. tried_not_interrupted _ _ _ logged found.answers;
    }

pub returns-in-Err : goal.returns-in-Err
returns-in-Err g c =
    let map = c.args.map.now in
    let old = g.F.Flash.chip c.args.flash.now in
    let new = g.F.Flash.chip c.confirm.new.flash in
    let closed = c.stop.ensures.closed refl in
    let down = c.stop.ensures.down refl in
    record {
      here = record {
        laid = laid_out_kept map _ _ _ c.requires.laid_out c.confirm.ensures.outside;
        opens = λ opens. open_none _ _ closed;
        steps = λ identity boots on.
            subst (λ fault. StepsTo (made map identity boots)
            (seen old c.args.uploads.now.sessions c.args.is_booted.now)
            (seen new c.stop.new.uploads.sessions c.stop.new.is_booted)
            (event.Confirm c.args.image) (fault_reply fault)) (sym c.stop.ensures.is)
            (confirm_stopped (made map identity boots) _ _ _ _ _ _ c.args.image c.if-not-is_booted.false c.in-Err.error
            c.in-Err.ensures.ends on closed down c.in-Err.ensures.cut);
        outside = c.confirm.ensures.outside;
        down = not_down _ _ _ c.if-not-is_booted.false;
        off = λ up off. flash_off c.in-Err.error c.stop.result old new c.stop.ensures.is c.in-Err.ensures.ends
            (c.in-Err.ensures.off off);
        journal = c.confirm.ensures.journal;
        ends = rw c.stop.ensures.is (stopped_ends _ _ _ _ _ _ closed down c.in-Err.error c.in-Err.ensures.ends);
      };
      refused = λ own. absurd (no_own c.in-Err.error c.stop.result c.stop.ensures.is own);
      kept = λ own. absurd (no_own c.in-Err.error c.stop.result c.stop.ensures.is own);
      ok = tt;
      interrupted = λ up on boots. absurd (tried_not_interrupted _ _ _
          (stops_tried map c.args.image old new c.in-Err.error c.in-Err.ensures.answers on) boots);
      untried = λ up on never whole. absurd (never
          (stops_tried map c.args.image old new c.in-Err.error c.in-Err.ensures.answers on));
      tried = λ logged. flash_not_tried c.in-Err.error c.stop.result _ c.stop.ensures.is refl;
    }
