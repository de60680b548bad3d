-- Lemmas for the law that each sector lies in exactly one part.
use Rattle.std.proofs.Common.{◌≡◌, ℕ, zero, suc, ◌+◌, ◌-◌, ◌*◌, ◌<◌, ◌≤◌, ◌==◌, ◌&&◌, Bool, true, false, List, slice_index, arith, sym, ◌∙◌, ap, refl, ⊎_elim}
use Rattle.std.proofs.lemmas.Bool.{cases_lt, eqb-true}
use Rattle.sector_map.specs.declared.layout.Side.{Side}
use Rattle.sector_map.specs.declared.layout.Side.TheVariants.{Primary, Secondary}
use Rattle.sector_map.specs.declared.layout.SectorMap.{SectorMap}
use Rattle.sector_map.specs.Part.{Part, Slot, TrailerOf, Scratch, Log, only, same_side}
use Rattle.sector_map.specs.Sizes.{before}
use Rattle.sector_map.specs.Map.{slot_sectors, side_start, sectors_of, IsMap, IsIn}
use Rattle.sector_map.proofs.Places.{before_none, before_step, apart}

both_true : (a b : Bool) → (a && b) ≡ true → (a ≡ true) × (b ≡ true)
both_true true b e = (refl, e)
both_true false b e = cc

side_is : (a b : Side) → same_side a b ≡ true → a ≡ b
side_is Primary Primary e = refl
side_is Primary Secondary e = cc
side_is Secondary Primary e = cc
side_is Secondary Secondary e = refl

-- The test for one part holds for no other part.
pub only_is : (p q : Part) → only p q ≡ true → p ≡ q
only_is (Slot j on) (Slot i side) e = let both = both_true (i == j) (same_side side on) e in
    ap (λ k. Slot k on) (sym (eqb-true i j both.0)) ∙ ap (λ s. Slot i s) (sym (side_is side on both.1))
only_is (Slot j on) (TrailerOf i side) e = cc
only_is (Slot j on) Scratch e = cc
only_is (Slot j on) Log e = cc
only_is (TrailerOf j on) (Slot i side) e = cc
only_is (TrailerOf j on) (TrailerOf i side) e = let both = both_true (i == j) (same_side side on) e in
    ap (λ k. TrailerOf k on) (sym (eqb-true i j both.0)) ∙ ap (λ s. TrailerOf i s) (sym (side_is side on both.1))
only_is (TrailerOf j on) Scratch e = cc
only_is (TrailerOf j on) Log e = cc
only_is Scratch (Slot i side) e = cc
only_is Scratch (TrailerOf i side) e = cc
only_is Scratch Scratch e = refl
only_is Scratch Log e = cc
only_is Log (Slot i side) e = cc
only_is Log (TrailerOf i side) e = cc
only_is Log Scratch e = cc
only_is Log Log e = refl

-- A sector lies in one part at most.
pub one_part : (map : SectorMap) (p q : Part) (s : ℕ) → IsMap map → IsIn map p s → IsIn map q s → p ≡ q
one_part map p q s fits in_p in_q = at (only p q) refl
  where
    at : (b : Bool) → only p q ≡ b → p ≡ q
    at true e = only_is p q e
    at false e = absurd (apart map p q s fits e in_p in_q)

-- An image that a sector of a side belongs to.
record IsOf (sectors : List ℕ) (images s : ℕ) : Type 0 where
  pub image : ℕ
  pub there : image < images
  pub low : before sectors image ≤ s
  pub high : s ≤ before sectors image + slice_index sectors image

image_of : (sectors : List ℕ) (images s : ℕ) → s < before sectors images → IsOf sectors images s
image_of sectors zero s lt = absurd (omega (arith, before_none sectors))
image_of sectors (suc n) s lt = ⊎_elim
    (λ (less : s < before sectors n). let of = image_of sectors n s less in
    record { image = of.image; there = omega (arith, of.there); low = of.low; high = of.high })
    (λ (last : before sectors n ≤ s). record {
      image = n;
      there = omega arith;
      low = last;
      high =
          omega (arith, before_step sectors n);
    })
    (cases_lt s (before sectors n))

-- A sector of a side is a slot's or a trailer's.
on_side : (map : SectorMap) (side : Side) (s : ℕ) → IsMap map → s < before map.sectors map.images
    → (part : Part) × IsIn map part (side_start map side + s)
on_side map side s fits lt =
    let of = image_of map.sectors map.images s lt in
    ⊎_elim
    (λ (slot : s < before map.sectors of.image + slot_sectors map of.image).
    (Slot of.image side, record { low = omega (arith, of.low); high = omega arith }))
    (λ (trailer : before map.sectors of.image + slot_sectors map of.image ≤ s). (
      TrailerOf of.image side,
      record {
        low = omega arith;
        high =
            omega (arith, of.high, fits.counts.some of.image of.there);
      },
    ))
    (cases_lt s (before map.sectors of.image + slot_sectors map of.image))

-- Each sector lies in a part.
pub covered : (map : SectorMap) (s : ℕ) → IsMap map → s < sectors_of map → (part : Part) × IsIn map part s
covered map s fits lt = ⊎_elim
    (λ (primary : s < before map.sectors map.images). moved Primary s primary (omega arith))
    (λ (behind : before map.sectors map.images ≤ s). ⊎_elim
    (λ (secondary : s < 2 * before map.sectors map.images). moved Secondary (s - before map.sectors map.images)
    (omega arith) (omega arith))
    (λ (after : 2 * before map.sectors map.images ≤ s). ⊎_elim
    (λ (scratch : s < 2 * before map.sectors map.images + 1). (Scratch, record { low = after; high = scratch }))
    (λ (log : 2 * before map.sectors map.images + 1 ≤ s). (Log, record { low = log; high = omega arith }))
    (cases_lt s (2 * before map.sectors map.images + 1)))
    (cases_lt s (2 * before map.sectors map.images)))
    (cases_lt s (before map.sectors map.images))
  where
    moved : (side : Side) (o : ℕ) → o < before map.sectors map.images → side_start map side + o ≡ s
        → (part : Part) × IsIn map part s
    moved side o below is = let on = on_side map side o fits below in
        (on.0, record { low = omega (arith, is, on.1.low); high = omega (arith, is, on.1.high) })
