use Rattle.std.proofs.Common.{◌≡◌, ◌≤◌, drop, length}
use Rattle.common.proofs.Masks.{mask_in}
use Rattle.common.proofs.mask.mask_of.Given as goal

abbrev pub invariant-loop-left : goal.invariant-loop-left
invariant-loop-left l = record {
  within : l.left ≤ length l.members;
  mask : l.mask ≡ mask_in (drop l.left l.members);
}

abbrev pub decreases-loop-left : goal.decreases-loop-left
decreases-loop-left l = l.left
