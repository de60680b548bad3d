use Rattle.std.proofs.Common.{◌≡◌, ◌≤◌, length}
use Rattle.sector_map.specs.Map.{IsLaidOut}
use Rattle.machine.specs.Device.{DeviceState}
use Rattle.upload.specs.View.{view}
use Rattle.flash_contents.specs.Reading.{AreRowsOf, CanRead}
use Rattle.decision.specs.Found.{AreReadable, AreRowsHeld}
use Rattle.decision.proofs.device_table.read_table_into.Given as goal

abbrev pub invariant-loop-image : goal.invariant-loop-image
invariant-loop-image g l = record {
  laid_out : IsLaidOut l.map (g.F.Flash.chip l.flash);
  few : l.image-end ≤ 8;
  same : g.F.Flash.chip l.flash ≡ g.F.Flash.chip l.initial.flash;
  count : length l.table.images.items ≡ l.image;
  rows : (s : DeviceState) → CanRead (view l.map (g.F.Flash.chip l.initial.flash)) s l.mask l.floors
      → AreRowsOf s l.floors l.image l.table.images.items;
  front : AreReadable (view l.map (g.F.Flash.chip l.initial.flash)) l.mask l.image;
  held : AreRowsHeld (view l.map (g.F.Flash.chip l.initial.flash)) l.mask l.table.images.items;
}
