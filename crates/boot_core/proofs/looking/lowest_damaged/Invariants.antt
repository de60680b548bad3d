use Rattle.std.proofs.Common.{◌≡◌}
use Rattle.upload.specs.View.{view}
use Rattle.flash_contents.specs.Starting.{AreHeld}
use Rattle.boot_core.proofs.looking.lowest_damaged.Given as goal

abbrev pub invariant-loop-image : goal.invariant-loop-image
invariant-loop-image g l = record {
  same : g.F.Flash.chip l.flash ≡ g.F.Flash.chip l.initial.flash;
  held : AreHeld (view l.map (g.F.Flash.chip l.initial.flash)) l.mask l.side l.image;
}
