use Rattle.std.proofs.Common.{◌≤◌, ◌-◌}
use Rattle.system_host.specs.Passing.{Passes}
use Rattle.system_host.proofs.file_reading.pass_over.Given as goal

-- All bytes but those that are left were passed over.
abbrev pub invariant-loop-left : goal.invariant-loop-left
invariant-loop-left g l = record {
  within : l.left ≤ l.count;
  passed : Passes (g.I.Read.remaining l.fn.input) (g.I.Read.remaining l.input) (l.count - l.left);
}

abbrev pub decreases-loop-left : goal.decreases-loop-left
decreases-loop-left g l = l.left
