use Rattle.std.proofs.Common.{◌≡◌, ◌<◌, ◌≤◌, true, map}
use Rattle.sector_map.specs.Map.{IsLaidOut}
use Rattle.validity.specs.Running.{running_row}
use Rattle.boot_core.specs.Provisioned.{AreRunningRows}
use Rattle.boot_core.proofs.provisioning.read_running.Given as goal

abbrev pub invariant-loop-image : goal.invariant-loop-image
invariant-loop-image g l = record {
  laid_out : IsLaidOut l.map (g.F.Flash.chip l.flash);
  few : l.image-end ≤ 8;
  same : g.F.Flash.chip l.flash ≡ g.F.Flash.chip l.initial.flash;
  on : 0 < l.image → (g.F.Flash.chip l.initial.flash).is_on ≡ true;
  rows : AreRunningRows l.map (g.F.Flash.chip l.initial.flash) l.image (map running_row l.running.items);
}
