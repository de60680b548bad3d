use Rattle.std.proofs.Common.{◌≡◌, ◌+◌, ◌≤◌, false, drop, take}
use Rattle.flash_model.specs.Chip.{IsUncut}
use Rattle.sector_map.specs.Map.{Keeps}
use Rattle.upload.specs.View.{view}
use Rattle.upload.specs.Accepted.{AreBlank, IsOpened, named_parts}
use Rattle.machine.specs.Accepted.{latest}
use Rattle.upload.specs.Wear.{journal_of_components, worn_of}
use Rattle.upload.proofs.opening.open_all.Given as goal

abbrev pub invariant-loop-component : goal.invariant-loop-component
invariant-loop-component g l = record {
  outside : Keeps l.map (named_parts (take l.component-index l.components)) (g.F.Flash.chip l.initial.flash)
      (g.F.Flash.chip l.flash);
  opened : IsOpened (view l.map (g.F.Flash.chip l.initial.flash)) (view l.map (g.F.Flash.chip l.flash))
      l.initial.uploads.sessions l.uploads.sessions (latest (take l.component-index l.components));
  erases : (g.F.Flash.chip l.flash).erases
      + worn_of l.map (g.F.Flash.chip l.flash) (drop l.component-index l.components)
      ≡ (g.F.Flash.chip l.initial.flash).erases + worn_of l.map (g.F.Flash.chip l.initial.flash) l.components;
  journal : (g.F.Flash.chip l.flash).journaled + journal_of_components l.map (drop l.component-index l.components)
      ≤ (g.F.Flash.chip l.initial.flash).journaled + journal_of_components l.map l.components;
  idle : AreBlank l.map (g.F.Flash.chip l.initial.flash) l.components
      → g.F.Flash.chip l.flash ≡ g.F.Flash.chip l.initial.flash;
  uncut : IsUncut (g.F.Flash.chip l.initial.flash) (g.F.Flash.chip l.flash);
  asleep : (g.F.Flash.chip l.initial.flash).is_on ≡ false → g.F.Flash.chip l.flash ≡ g.F.Flash.chip l.initial.flash;
}
