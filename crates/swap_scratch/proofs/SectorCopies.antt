-- The copy of a sector to one that was erased for it.
use Rattle.std.proofs.Common.{◌≡◌, ◌⊎◌, ℕ, ◌+◌, ◌*◌, ◌/◌, ◌<◌, ◌≤◌, ◌^◌, arith, sym, ◌∙◌, ap, subst}
use Rattle.flash_model.specs.Chip.{Chip, size_of, IsErased, SameOutside}
use Rattle.flash_model.proofs.Frame.{product_le, products_apart, same_outside_trans}
use Rattle.flash_model.proofs.Units.{aligned}
use Rattle.swap_scratch.specs.Copies.{CanCopy, CanCopySector}

module _ (from to size at n : ℕ) (old mid : Chip) (can : CanCopySector from to old) (is : size ≡ old.sector_size)
    (same : SameOutside at n old mid) where
  size_same : size_of mid ≡ old.sectors * size
  size_same = ap (λ s. s * mid.sector_size) same.sectors
      ∙ ap (λ e. old.sectors * e) (same.sector_size ∙ sym is)

  whole_units : 8 * (size / 8) ≡ size
  whole_units = subst (λ e. 8 * (e / 8) ≡ e) (sym is) can.units

  pub sector_addressed : size_of mid < 2 ^ 32
  sector_addressed = subst (λ e. e < 2 ^ 32) (sym (size_same ∙ ap (λ e. old.sectors * e) is)) can.addressed

  pub sectors_apart : (from * size + size ≤ to * size) ⊎ (to * size + size ≤ from * size)
  sectors_apart = products_apart from to size can.apart

  pub sector_copyable : IsErased mid (to * old.sector_size) old.sector_size → CanCopy (from * size) (to * size) size mid
  sector_copyable erased = record {
    from_inside = omega (arith, product_le from old.sectors size can.from_inside, size_same);
    to_inside = omega (arith, product_le to old.sectors size can.to_inside, size_same);
    erased = subst (λ e. IsErased mid (to * e) e) (sym is) erased;
    place = aligned to size whole_units;
    units = omega (arith, whole_units);
  }

  pub copied_outside : (new : Chip) → SameOutside (to * old.sector_size) old.sector_size old mid
      → SameOutside (to * size) size mid new → SameOutside (to * old.sector_size) old.sector_size old new
  copied_outside new first second = same_outside_trans _ _ old mid new first
      (subst (λ e. SameOutside (to * e) e mid new) is second)
