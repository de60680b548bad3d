use Rattle.std.proofs.Common.{◌≡◌, true}
use Rattle.sweep.specs.Scenario.{Reboots}
use Rattle.sweep.proofs.scenario_run.boot_again.Given as goal

-- The device has the setup that it was made with, and power, and booted some number of times.
abbrev pub invariant-loop : goal.invariant-loop
invariant-loop g l = record {
  setup : l.device.setup ≡ l.fn.device.setup;
  on : l.device.here.flash.is_on ≡ true;
  reboots : Reboots l.fn.device.setup l.fn.device.here l.device.here;
}
