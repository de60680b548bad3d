use Rattle.std.proofs.Common.{true, ◌≡◌, ◌-◌, ◌<◌, ◌≤◌}
use Rattle.flash_model.specs.Chip.{IsErased}
use Rattle.flash_model.proofs.erased_ranges.is_erased.Given as goal

abbrev pub invariant-loop-done : goal.invariant-loop-done
invariant-loop-done g l = record {
  within : l.done ≤ l.len;
  same : g.F.Flash.chip l.flash ≡ g.F.Flash.chip l.initial.flash;
  erased : IsErased (g.F.Flash.chip l.initial.flash) l.at l.done;
  on : 0 < l.done → (g.F.Flash.chip l.initial.flash).is_on ≡ true;
}

abbrev pub decreases-loop-done : goal.decreases-loop-done
decreases-loop-done g l = l.len - l.done
