use Rattle.std.proofs.Common.{rules}
use Rattle.sweep.proofs.ScenarioLaws.{event_and_reboots, event_uncut}
use Rattle.sweep.proofs.scenario_run.run_event.Goals as goal

-- The event was interrupted, and the device booted after it.
pub returns-in-Cut-clause-runs : goal.returns-in-Cut-clause-runs
returns-in-Cut-clause-runs g c =
    event_and_reboots c.args.device.now.setup c.reply_to-reply.new.device.setup _ _ _ c.args.event.now
    c.reply_to-reply.result c.reply_to-reply.ensures.steps c.reply_to-reply.ensures.setup c.boot_again-reply.ensures.reboots

-- The event wasn't interrupted.
pub returns : goal.returns
returns g c = record {
  setup = search rules;
  on = search rules;
  runs = event_uncut c.args.device.now.setup _ _ c.args.event.now c.reply_to-reply.result c.reply_to-reply.ensures.steps;
}
