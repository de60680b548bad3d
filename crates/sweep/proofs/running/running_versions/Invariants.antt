use Rattle.std.proofs.Common.{◌≡◌, ◌≤◌, length, true}
use Rattle.std.specs.List.{AllZip, range_with_len}
use Rattle.sector_map.specs.Map.{IsLaidOut}
use Rattle.sweep.specs.Scenario.{HasVersion}
use Rattle.sweep.proofs.running.running_versions.Given as goal

-- The flash is unchanged, and the images so far run in these versions.
abbrev pub invariant-loop-image : goal.invariant-loop-image
invariant-loop-image g l = record {
  few : l.image-end ≤ 8;
  same : g.F.Flash.chip l.flash ≡ g.F.Flash.chip l.fn.flash;
  laid_out : IsLaidOut l.map (g.F.Flash.chip l.flash);
  on : (g.F.Flash.chip l.flash).is_on ≡ true;
  images : l.image-end ≡ l.map.images;
  count : length l.versions.items ≡ l.image;
  found : AllZip (HasVersion l.map (g.F.Flash.chip l.fn.flash)) (range_with_len 0 l.image) l.versions.items;
}
