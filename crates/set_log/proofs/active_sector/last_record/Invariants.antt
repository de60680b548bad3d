use Rattle.std.proofs.Common.{◌*◌, ◌≤◌, ◌≡◌}
use Rattle.set_log.specs.Log.{log_bytes}
use Rattle.set_log.specs.Ring.{last_gated, last_of, places_in}
use Rattle.set_log.proofs.active_sector.last_record.Given as goal

abbrev pub invariant-loop-place : goal.invariant-loop-place
invariant-loop-place g l = record {
  same : g.F.Flash.chip l.flash ≡ g.F.Flash.chip l.initial.flash;
  below : l.place ≤ places_in l.map.sector_size;
  last : last_of l.map.sector_size (log_bytes l.map (g.F.Flash.chip l.initial.flash)) l.sector
      ≡ last_gated (log_bytes l.map (g.F.Flash.chip l.initial.flash)) (l.sector * l.map.sector_size) l.place;
}

abbrev pub decreases-loop-place : goal.decreases-loop-place
decreases-loop-place g l = l.place
