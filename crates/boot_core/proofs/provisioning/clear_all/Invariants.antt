use Rattle.std.proofs.Common.{◌≡◌, ◌+◌, ◌*◌, ◌≤◌, false}
use Rattle.flash_model.specs.Chip.{IsUncut}
use Rattle.sector_map.specs.Map.{IsLaidOut, Keeps}
use Rattle.boot_core.specs.Provisioned.{AreCleared, any_trailer}
use Rattle.boot_core.proofs.provisioning.clear_all.Given as goal

abbrev pub invariant-loop-image : goal.invariant-loop-image
invariant-loop-image g l = record {
  laid_out : IsLaidOut l.map (g.F.Flash.chip l.flash);
  outside : Keeps l.map any_trailer (g.F.Flash.chip l.initial.flash) (g.F.Flash.chip l.flash);
  cleared : AreCleared l.map (g.F.Flash.chip l.flash) l.image;
  journal : (g.F.Flash.chip l.flash).journaled ≤ (g.F.Flash.chip l.initial.flash).journaled + 24 * l.image;
  uncut : IsUncut (g.F.Flash.chip l.initial.flash) (g.F.Flash.chip l.flash);
  asleep : (g.F.Flash.chip l.initial.flash).is_on ≡ false
      → g.F.Flash.chip l.flash ≡ g.F.Flash.chip l.initial.flash;
}
