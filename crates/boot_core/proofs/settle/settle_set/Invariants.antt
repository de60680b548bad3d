use Rattle.std.proofs.Common.{◌≡◌, ◌+◌, ◌*◌, ◌<◌, ◌≤◌, ℕ, true, false}
use Rattle.flash_model.specs.Chip.{IsUncut}
use Rattle.sector_map.specs.Map.{IsLaidOut, Keeps}
use Rattle.sector_map.specs.Part.{trailers_in}
use Rattle.common.specs.Masks.{is_member}
use Rattle.swap_scratch.specs.Swap.{sum_over}
use Rattle.trailer.specs.Settled.{is_confirmed}
use Rattle.upload.specs.View.{view}
use Rattle.flash_contents.specs.Holding.{IsSettledAt}
use Rattle.boot_core.proofs.settle.settle_set.Given as goal

abbrev pub invariant-loop-image : goal.invariant-loop-image
invariant-loop-image g l = record {
  laid_out : IsLaidOut l.map (g.F.Flash.chip l.flash);
  outside : Keeps l.map (trailers_in l.mask) (g.F.Flash.chip l.initial.flash) (g.F.Flash.chip l.flash);
  settled : (i : ℕ) → i < l.image → is_member l.mask i ≡ true
      → IsSettledAt (view l.map (g.F.Flash.chip l.flash)) i (is_confirmed l.settling);
  erases : (g.F.Flash.chip l.flash).erases
      ≤ (g.F.Flash.chip l.initial.flash).erases + 2 * sum_over l.mask (λ i. 1) l.image;
  journal : (g.F.Flash.chip l.flash).journaled
      ≤ (g.F.Flash.chip l.initial.flash).journaled + 92 * sum_over l.mask (λ i. 1) l.image;
  uncut : IsUncut (g.F.Flash.chip l.initial.flash) (g.F.Flash.chip l.flash);
  asleep : (g.F.Flash.chip l.initial.flash).is_on ≡ false
      → g.F.Flash.chip l.flash ≡ g.F.Flash.chip l.initial.flash;
}
