use Rattle.std.proofs.Common.{◌≡◌, take, true}
use Rattle.sweep.specs.Scenario.{RunsEvents, held_in}
use Rattle.sweep.proofs.scenario_run.run_events.Given as goal

-- The device has the setup that it was made with, and power, and took the events so far.
abbrev pub invariant-loop-event : goal.invariant-loop-event
invariant-loop-event g l = record {
  setup : l.device.setup ≡ l.fn.device.setup;
  on : l.device.here.flash.is_on ≡ true;
  runs : RunsEvents l.fn.device.setup l.fn.device.here l.device.here (take l.event-index (held_in l.events));
}
