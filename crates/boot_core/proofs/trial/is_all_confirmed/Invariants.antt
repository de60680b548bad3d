use Rattle.std.proofs.Common.{◌≡◌, ◌<◌, ℕ, true}
use Rattle.common.specs.Masks.{is_member}
use Rattle.sector_map.specs.declared.layout.Side.TheVariants.{Primary}
use Rattle.upload.specs.View.{view}
use Rattle.boot_core.proofs.trial.is_all_confirmed.Given as goal

abbrev pub invariant-loop-image : goal.invariant-loop-image
invariant-loop-image g l = record {
  same : g.F.Flash.chip l.flash ≡ g.F.Flash.chip l.initial.flash;
  good : (i : ℕ) → i < l.image → is_member l.mask i ≡ true
      → ((view l.map (g.F.Flash.chip l.initial.flash)).trailer i Primary).image_ok ≡ true;
}
