use Rattle.std.proofs.Common.{◌≡◌, true}
use Rattle.layer_tests.proofs.device.reads.run_upgrades.Given as goal

abbrev pub invariant-loop-event : goal.invariant-loop-event
invariant-loop-event g l = l.device.here.flash.is_on ≡ true
