use Rattle.std.proofs.Common.{◌≡◌, true}
use Rattle.sweep.proofs.sweeping.count_through.Given as goal

-- The flash has power.
abbrev pub invariant-loop-event : goal.invariant-loop-event
invariant-loop-event g l = l.device.here.flash.is_on ≡ true
