-- What is found by looking at the images of a set, or at all images.
use Rattle.std.proofs.Common.{◌≡◌, ℕ, zero, suc, ◌+◌, ◌<◌, ◌≤◌, true, arith, refl, subst, sym, ⊎_elim}
use Rattle.std.proofs.lemmas.Bool.{cases_lt}
use Rattle.flash_model.specs.Chip.{Chip}
use Rattle.sector_map.specs.declared.layout.SectorMap.{SectorMap}
use Rattle.sector_map.specs.declared.layout.Side.{Side}
use Rattle.sector_map.specs.declared.layout.Side.TheVariants.{Primary}
use Rattle.sector_map.specs.Map.{IsLaidOut}
use Rattle.common.specs.Masks.{is_member}
use Rattle.upload.specs.View.{View, view}
use Rattle.flash_contents.specs.Starting.{AreHeld, AreIntact, IsHeld, IsLost}
use Rattle.flash_contents.proofs.Starting.{held_lost}
use Rattle.flash_contents.proofs.Steadying.{no_member}
use Rattle.decision.specs.Found.{IsDamagedAt, IsLowestAt}

-- One image more of a set was looked at.
pub held_next : (w : View) (mask : ℕ) (side : Side) (n : ℕ) → AreHeld w mask side n
    → (is_member mask n ≡ true → IsHeld (w.slot n side)) → AreHeld w mask side (n + 1)
held_next w mask side n before here i lt member = ⊎_elim
    (λ (below : i < n). before i below member)
    (λ (above : n ≤ i).
    let same : n ≡ i = omega (arith, lt, above) in
    subst (λ k. IsHeld (w.slot k side)) same (here (subst (λ k. is_member mask k ≡ true) (sym same) member)))
    (cases_lt i n)

-- ---- all images

-- Each image of a map is in the set of all bits.
member_all : (i : ℕ) → i < 8 → is_member 255 i ≡ true
unfolding is_member
member_all zero lt = refl
member_all (suc zero) lt = refl
member_all (suc (suc zero)) lt = refl
member_all (suc (suc (suc zero))) lt = refl
member_all (suc (suc (suc (suc zero)))) lt = refl
member_all (suc (suc (suc (suc (suc zero))))) lt = refl
member_all (suc (suc (suc (suc (suc (suc zero)))))) lt = refl
member_all (suc (suc (suc (suc (suc (suc (suc zero))))))) lt = refl
member_all (suc (suc (suc (suc (suc (suc (suc (suc i)))))))) lt = absurd (omega (arith, lt))

module _ (map : SectorMap) (chip : Chip) (laid : IsLaidOut map chip) where
  held_all : (n i : ℕ) → AreHeld (view map chip) 255 Primary n → i < n → i < map.images
      → IsHeld ((view map chip).slot i Primary)
  held_all n i held lt there =
      held i lt (member_all i (omega (arith, there, laid.is_map.counts.few)))

  pub all_intact : AreHeld (view map chip) 255 Primary map.images → AreIntact (view map chip)
  all_intact held i lt = held_all map.images i held lt lt

  -- The lowest running image that isn't intact.
  pub lowest_running : (i : ℕ) → IsLost (view map chip) 255 Primary i → IsLowestAt (view map chip) 0 i
  lowest_running i lost = record {
    there = lost.there;
    damaged = subst (λ b. IsDamagedAt (view map chip) b i) (sym (no_member i)) lost.lost;
    lowest = λ k less damaged.
        let below : k < map.images = omega (arith, less, lost.there) in
        held_lost _ (held_all i k lost.lowest less below)
        (subst (λ b. IsDamagedAt (view map chip) b k) (no_member k) damaged);
  }
