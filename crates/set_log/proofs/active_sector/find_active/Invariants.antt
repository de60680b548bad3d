use Rattle.std.proofs.Common.{◌≡◌, ◌<◌, ℕ, true, false}
use Rattle.set_log.specs.Log.{log_bytes}
use Rattle.set_log.specs.Ring.{is_active}
use Rattle.set_log.proofs.active_sector.find_active.Given as goal

abbrev pub invariant-loop-sector : goal.invariant-loop-sector
invariant-loop-sector g l = record {
  same : g.F.Flash.chip l.flash ≡ g.F.Flash.chip l.fn.flash;
  none : (s : ℕ) → s < l.sector → is_active l.map.sector_size (log_bytes l.map (g.F.Flash.chip l.fn.flash)) s ≡ false;
  on : 0 < l.sector → (g.F.Flash.chip l.fn.flash).is_on ≡ true;
}
