use Rattle.std.proofs.Common.{◌≡◌, ℕ, ◌<◌, false}
use Rattle.flash_model.specs.Units.{are_erased}
use Rattle.trailer.specs.Status.{status_unit}
use Rattle.trailer.proofs.statuses.are_all_set.Given as goal

abbrev pub invariant-loop-unit : goal.invariant-loop-unit
invariant-loop-unit l = record {
  set : (j : ℕ) → j < l.unit → are_erased (status_unit l.block j) ≡ false;
}
