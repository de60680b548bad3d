use Rattle.std.proofs.Common.{◌*◌, ◌+◌, ◌-◌, ◌≤◌, ◌≡◌}
use Rattle.flash_model.specs.Chip.{IsErased}
use Rattle.set_log.specs.Log.{log_of}
use Rattle.set_log.specs.Ring.{places_in}
use Rattle.set_log.proofs.active_sector.free_place.Given as goal

abbrev pub invariant-loop-place : goal.invariant-loop-place
invariant-loop-place g l = record {
  same : g.F.Flash.chip l.flash ≡ g.F.Flash.chip l.initial.flash;
  below : l.place ≤ places_in l.map.sector_size;
  erased : IsErased (log_of l.map (g.F.Flash.chip l.initial.flash)) (l.sector * l.map.sector_size + 64 * l.place)
      (64 * (places_in l.map.sector_size - l.place));
}

abbrev pub decreases-loop-place : goal.decreases-loop-place
decreases-loop-place g l = l.place
