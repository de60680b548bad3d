use Rattle.std.proofs.Common.{◌≡◌, ◌<◌, ℕ, true, Some}
use Rattle.sector_map.specs.Map.{IsLaidOut}
use Rattle.common.specs.Masks.{is_member}
use Rattle.trailer.specs.Standing.{standing_of}
use Rattle.common.specs.declared.kind.Kind.TheVariants.{Permanent}
use Rattle.boot_core.proofs.deciding.asks_for_good.Given as goal

abbrev pub invariant-loop-image : goal.invariant-loop-image
invariant-loop-image g l = record {
  laid_out : IsLaidOut l.map (g.F.Flash.chip l.flash);
  same : g.F.Flash.chip l.flash ≡ g.F.Flash.chip l.initial.flash;
  good : (i : ℕ) → i < l.image → is_member l.mask i ≡ true
      → standing_of l.map (g.F.Flash.chip l.initial.flash) i ≡ Some Permanent;
}
