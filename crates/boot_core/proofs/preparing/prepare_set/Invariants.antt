use Rattle.std.proofs.Common.{◌≡◌, ◌<◌, ◌≤◌, ◌+◌, ◌*◌, ℕ, true, false}
use Rattle.flash_model.specs.Chip.{IsUncut}
use Rattle.sector_map.specs.Map.{IsLaidOut, Keeps}
use Rattle.sector_map.specs.Part.{trailers_on}
use Rattle.common.specs.Masks.{is_member}
use Rattle.swap_scratch.specs.Swap.{sum_over}
use Rattle.upload.specs.View.{view}
use Rattle.boot_core.specs.SwapSize.{IsReady}
use Rattle.boot_core.proofs.preparing.prepare_set.Given as goal

abbrev pub invariant-loop-image : goal.invariant-loop-image
invariant-loop-image g l = record {
  laid_out : IsLaidOut l.map (g.F.Flash.chip l.flash);
  outside : Keeps l.map (trailers_on l.mask l.side) (g.F.Flash.chip l.initial.flash) (g.F.Flash.chip l.flash);
  ready : (i : ℕ) → i < l.image → is_member l.mask i ≡ true
      → IsReady (view l.map (g.F.Flash.chip l.flash)) l.side i;
  erases : (g.F.Flash.chip l.flash).erases
      ≤ (g.F.Flash.chip l.initial.flash).erases + sum_over l.mask (λ i. 1) l.image;
  journal : (g.F.Flash.chip l.flash).journaled
      ≤ (g.F.Flash.chip l.initial.flash).journaled + 32 * sum_over l.mask (λ i. 1) l.image;
  uncut : IsUncut (g.F.Flash.chip l.initial.flash) (g.F.Flash.chip l.flash);
  asleep : (g.F.Flash.chip l.initial.flash).is_on ≡ false
      → g.F.Flash.chip l.flash ≡ g.F.Flash.chip l.initial.flash;
}
