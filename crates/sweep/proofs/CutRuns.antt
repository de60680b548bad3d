-- Runs of a device whose flash may cut writes.
use Rattle.std.proofs.Common.{◌≡◌, List, [], ◌∷◌, ◌++◌, refl}
use Rattle.flash_contents.specs.Holding.{DeviceView}
use Rattle.machine.specs.Intake.{Setup}
use Rattle.machine.specs.Steps.{DeviceEvent}
use Rattle.machine.specs.declared.reply.Reply.{Reply}
use Rattle.machine.proofs.Runs.{run_joins}
use Rattle.flash_contents.proofs.HeldRuns as held
use Rattle.boot_core.specs.Calls.{Steps}
use Rattle.boot_core.specs.CutEvents.{IsCutByWrite}
use Rattle.boot_core.specs.Device.{Whole}
use Rattle.boot_core.proofs.CutEvents.{cut_by_due, steps_join}
use Rattle.sweep.specs.Scenario.{RunsCut, StepsCut}

-- A step of a device over a flash without faults is a step with its cuts.
pub step_cut : {happened : DeviceEvent} {old new : Whole} {reply : Reply} → Steps happened old new reply
    → old.here.flash.faults ≡ 0 → new.here.flash.faults ≡ 0
    → StepsCut old.setup old.here new.here happened reply
step_cut {happened} {old} {new} {reply} taken sound still = record {
  steps = taken.steps;
  cut = cut_by_due old.here.flash new.here.flash reply sound still taken.due;
}

-- A run of no event.
pub runs_none : (setup : Setup) (here : DeviceView) → RunsCut setup here here [] []
runs_none setup here = record { runs = held.runs_none setup here; cuts = refl }

-- A run that another continues.
pub runs_join : (setup : Setup) (old mid new : DeviceView) (events more : List DeviceEvent)
    (replies answered : List Reply) → RunsCut setup old mid events replies → RunsCut setup mid new more answered
    → RunsCut setup old new (events ++ more) (replies ++ answered)
runs_join setup old mid new events more replies answered first then = record {
  runs = λ m holds.
      let before = first.runs m holds in
      let after = then.runs before.0 before.2 in
      (after.0, run_joins setup m before.0 after.0 events more replies answered before.1 after.1, after.2);
  cuts = steps_join IsCutByWrite setup old mid new events more replies answered first.cuts then.cuts;
}

-- A run of one step.
pub runs_one : (setup : Setup) (old new : DeviceView) (happened : DeviceEvent) (reply : Reply)
    → StepsCut setup old new happened reply → RunsCut setup old new (happened ∷ []) (reply ∷ [])
runs_one setup old new happened reply one = record {
  runs = held.runs_more setup old old new [] [] happened reply (held.runs_none setup old) one.steps;
  cuts = (new, (one.steps, one.cut), refl);
}

-- A run of one more step.
pub runs_more : (setup : Setup) (old mid new : DeviceView) (events : List DeviceEvent) (replies : List Reply)
    (happened : DeviceEvent) (reply : Reply) → RunsCut setup old mid events replies
    → StepsCut setup mid new happened reply → RunsCut setup old new (events ++ happened ∷ []) (replies ++ reply ∷ [])
runs_more setup old mid new events replies happened reply before one =
    runs_join setup old mid new events (happened ∷ []) replies (reply ∷ []) before
    (runs_one setup mid new happened reply one)
