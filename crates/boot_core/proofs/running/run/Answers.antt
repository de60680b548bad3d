use Rattle.std.proofs.Common.{rules, arith, ◌≡◌, ◌≤◌, ◌∙◌, ◌+◌, [], ◌∷◌, length, subst}
use Rattle.std.proofs.lemmas.List.{take_all, take_more}
use Rattle.flash_contents.specs.Passing.{RunsTo}
use Rattle.machine.specs.Steps.{cuts_in}
use Rattle.machine.proofs.Runs.{cuts_on}
use Rattle.flash_contents.proofs.HeldRuns.{runs_on}
use Rattle.boot_core.specs.CutEvents.{IsCutAsDue, StartsAfter, StepsEach}
use Rattle.boot_core.proofs.CutEvents.{each_on}
use Rattle.boot_core.proofs.running.run.Goals as goal

pub loop-event-preserved : goal.loop-event-preserved
loop-event-preserved g c =
    let so_far = c.loop-event.invariant in
    let counted : c.step-reply.new.device.here.flash.cuts
    ≡ c.loop-event.device.here.flash.cuts + cuts_in (c.step-reply.result ∷ []) =
    omega (arith, c.step-reply.ensures.cuts) in
    record {
      setup = c.step-reply.ensures.setup ∙ so_far.setup;
      on = c.step-reply.ensures.on;
      room = omega (arith, c.in-Ok.ensures.capacity, so_far.room);
      filled = omega (arith, c.in-Ok.ensures.len, so_far.filled);
      count = search rules;
      runs = runs_on _ _ _ _ _ _ _ _ _ _ _ so_far.setup
          (take_more c.args.events.now c.loop-event.event-index _ (omega arith)) c.in-Ok.ensures.items so_far.runs
          c.step-reply.ensures.steps;
      cuts = cuts_on _ _ _ _ _ _ c.in-Ok.ensures.items so_far.cuts counted;
      due = each_on IsCutAsDue _ _ _ _ _ _ _ _ _ _ _ so_far.setup
          (take_more c.args.events.now c.loop-event.event-index _ (omega arith)) c.in-Ok.ensures.items so_far.due
          c.step-reply.ensures.steps c.step-reply.ensures.due;
      starts = each_on (StartsAfter c.args.device.now.setup.map) _ _ _ _ _ _ _ _ _ _ _ so_far.setup
          (take_more c.args.events.now c.loop-event.event-index _ (omega arith)) c.in-Ok.ensures.items so_far.starts
          c.step-reply.ensures.steps (rw so_far.setup at c.step-reply.ensures.starts);
    }

pub returns : goal.returns
returns g c =
    let done = c.loop-event.invariant in
    let all : length c.args.events.now ≤ c.loop-event.event-index = omega arith in
    record {
      run = subst (λ events. RunsTo c.args.device.now.setup c.args.device.now.here c.loop-event.device.here events
          c.loop-event.replies.items) (take_all c.loop-event.event-index c.args.events.now all) done.runs;
      each = omega (arith, done.count, all);
      cuts = done.cuts;
      due = subst (λ events. StepsEach IsCutAsDue c.args.device.now.setup c.args.device.now.here events
          c.loop-event.replies.items c.loop-event.device.here) (take_all c.loop-event.event-index c.args.events.now all)
          done.due;
      starts = subst (λ events. StepsEach (StartsAfter c.args.device.now.setup.map) c.args.device.now.setup
          c.args.device.now.here events c.loop-event.replies.items c.loop-event.device.here)
          (take_all c.loop-event.event-index c.args.events.now all) done.starts;
      on = done.on;
      setup = done.setup;
      nothing = tt;
    }
