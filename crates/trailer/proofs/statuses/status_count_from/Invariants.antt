use Rattle.std.proofs.Common.{◌≡◌, ℕ, ◌<◌, ◌≤◌, true, false}
use Rattle.flash_model.specs.Units.{are_erased}
use Rattle.trailer.specs.Fields.{trailer_bytes}
use Rattle.trailer.specs.Status.{status_unit}
use Rattle.trailer.proofs.statuses.status_count_from.Given as goal

abbrev pub invariant-loop-status : goal.invariant-loop-status
invariant-loop-status g l = record {
  same : g.F.Flash.chip l.flash ≡ g.F.Flash.chip l.fn.flash;
  set : (j : ℕ) → j < l.status → are_erased (status_unit (trailer_bytes l.map (g.F.Flash.chip l.fn.flash) l.image
      l.side) j) ≡ false;
  past : l.known ≤ l.status;
  on : l.known < l.status → (g.F.Flash.chip l.fn.flash).is_on ≡ true;
}
