-- Lemmas about the parts that a write leaves unchanged.
use Rattle.std.proofs.Common.{◌≡◌, ℕ, ◌+◌, ◌-◌, ◌*◌, ◌/◌, ◌%◌, ◌^◌, ◌<◌, ◌≤◌, Bool, false, arith, sym, ◌∙◌, ap, subst, refl, ⊎_elim, length, slice_index, slice_range, get_or}
use Rattle.std.proofs.lemmas.Bool.{cases_lt}
use Rattle.flash_model.specs.Chip.{Chip, SameOutside, SameSector, size_of}
use Rattle.flash_model.proofs.Frame.{product_le}
use Rattle.flash_model.proofs.Ranges.{range_same, range_at}
use Rattle.sector_map.specs.declared.layout.SectorMap.{SectorMap}
use Rattle.sector_map.specs.Part.{Part, only}
use Rattle.sector_map.specs.Map.{start_of, first_of, count_of, sectors_of, end_of_map, IsMap, IsLaidOut, IsIn, Keeps, part_of}
use Rattle.sector_map.proofs.Places.{apart, within}
use Rattle.sector_map.proofs.Products.{mul_le, lower, upper, sector_at}

-- If the sectors of each untouched part are unchanged, so is each untouched part.
pub keeps_of_sectors : (map : SectorMap) (touched : Part → Bool) (old new : Chip) → IsLaidOut map old
    → new.sector_size ≡ old.sector_size → new.sectors ≡ old.sectors → new.fixed ≡ old.fixed
    → length new.bytes ≡ length old.bytes
    → ((part : Part) (s : ℕ) → touched part ≡ false → IsIn map part s → SameSector s old new)
    → ((k : ℕ) → end_of_map map ≤ k → slice_index new.bytes k ≡ slice_index old.bytes k)
    → Keeps map touched old new
unfolding part_of
keeps_of_sectors map touched old new laid size sectors fixed long same behind = record {
  behind = behind;
  sector_size = size;
  sectors = sectors;
  fixed = fixed;
  size = long;
  parts = λ part e. range_same _ _ old.bytes new.bytes long (λ k low high.
      let at = sector_at (first_of map part) (count_of map part) map.sector_size k
      (omega (arith, laid.is_map.trailers 0)) low high in
      let is : k / map.sector_size * map.sector_size ≡ k / map.sector_size * old.sector_size =
      ap (λ x. k / map.sector_size * x) (sym laid.sector_size) in
      (same part (k / map.sector_size) e (record { low = at.0; high = at.1 })).each k (k % map.sector_size)
      (at.2 ∙ ap (λ x. x + k % map.sector_size) is)
      (subst (λ x. k % map.sector_size < x) (sym laid.sector_size) at.3));
}

-- A map stays laid out, whatever a call touches.
pub laid_out_kept : (map : SectorMap) (touched : Part → Bool) (old new : Chip) → IsLaidOut map old
    → Keeps map touched old new → IsLaidOut map new
laid_out_kept map touched old new laid keeps = record {
  is_map = laid.is_map;
  sector_size = keeps.sector_size ∙ laid.sector_size;
  sectors = subst (λ n. sectors_of map ≤ n) (sym keeps.sectors) laid.sectors;
  whole = keeps.size ∙ laid.whole
      ∙ sym (ap (λ n. n * new.sector_size) keeps.sectors ∙ ap (λ n. old.sectors * n) keeps.sector_size);
  size = rw (keeps.sectors, keeps.sector_size) laid.size;
}

-- A call that changes no byte leaves each part unchanged, whatever happens to power and counts.
pub keeps_bytes : (map : SectorMap) (touched : Part → Bool) (old new : Chip) → new.sector_size ≡ old.sector_size
    → new.sectors ≡ old.sectors → new.fixed ≡ old.fixed → new.bytes ≡ old.bytes
    → Keeps map touched old new
unfolding part_of
keeps_bytes map touched old new size sectors fixed same = record {
  sector_size = size;
  sectors = sectors;
  fixed = fixed;
  size = ap length same;
  parts = λ part e. ap
      (λ bytes. slice_range bytes (start_of map part)
      ((first_of map part + count_of map part) * map.sector_size)) same;
  behind = λ k le. ap (λ bytes. slice_index bytes k) same;
}

-- A call that changes nothing leaves each part unchanged.
pub keeps_refl : (map : SectorMap) (touched : Part → Bool) (chip : Chip) → Keeps map touched chip chip
keeps_refl map touched chip = keeps_bytes map touched chip chip refl refl refl refl

-- Two calls in turn touch only what either of them may touch.
pub keeps_trans : (map : SectorMap) (touched : Part → Bool) (old mid new : Chip) → Keeps map touched old mid
    → Keeps map touched mid new → Keeps map touched old new
keeps_trans map touched old mid new a b = record {
  sector_size = b.sector_size ∙ a.sector_size;
  sectors = b.sectors ∙ a.sectors;
  fixed = b.fixed ∙ a.fixed;
  size = b.size ∙ a.size;
  parts = λ part e. b.parts part e ∙ a.parts part e;
  behind = λ k le. b.behind k le ∙ a.behind k le;
}

-- A call that touches fewer parts touches no others.
pub keeps_wider : (map : SectorMap) (less more : Part → Bool) (old new : Chip)
    → ((part : Part) → more part ≡ false → less part ≡ false) → Keeps map less old new → Keeps map more old new
keeps_wider map less more old new wider a =
    record {
      sector_size = a.sector_size;
      sectors = a.sectors;
      fixed = a.fixed;
      size = a.size;
      parts =
          λ part e. a.parts part (wider part e);
      behind = a.behind;
    }

-- No part extends beyond the end of the map.
behind_parts : (map : SectorMap) (part : Part) (k : ℕ) → IsMap map → end_of_map map ≤ k
    → first_of map part * map.sector_size ≤ k
    → k < (first_of map part + count_of map part) * map.sector_size → ⊥
behind_parts map part k is_map le low high =
    let at = sector_at (first_of map part) (count_of map part) map.sector_size k (omega (arith, is_map.trailers 0)) low
    high in
    let there = within map part (k / map.sector_size) is_map (record { low = at.0; high = at.1 }) in
    omega (arith, le, at.2, at.3, product_le (k / map.sector_size) (sectors_of map) map.sector_size there)

-- A write inside one part leaves all other parts unchanged.
pub keeps_others : (map : SectorMap) (part : Part) (at n : ℕ) (old new : Chip) → IsLaidOut map old
    → SameOutside at n old new
    → first_of map part * map.sector_size ≤ at
    → at + n ≤ (first_of map part + count_of map part) * map.sector_size → Keeps map (only part) old new
keeps_others map part at n old new laid same low high =
    keeps_of_sectors map (only part) old new laid same.sector_size same.sectors same.fixed same.size
    (λ other s e is_in. record {
      each = λ k o eq lt.
          let o_lt : o < map.sector_size = subst (λ x. o < x) laid.sector_size lt in
          let k_is : k ≡ s * map.sector_size + o = eq ∙ ap (λ x. s * x + o) laid.sector_size in
          ⊎_elim (λ (lt : k < at). same.before k lt)
          (λ (ge : at ≤ k). ⊎_elim
          (λ (lt : k < at + n). absurd (apart map part other s laid.is_map e (inside s o k o_lt k_is ge lt) is_in))
          (λ (ge : at + n ≤ k). same.after k ge)
          (cases_lt k (at + n)))
          (cases_lt k at);
    })
    (λ k le. ⊎_elim (λ (lt : k < at). same.before k lt)
    (λ (ge : at ≤ k). ⊎_elim
    (λ (lt : k < at + n). absurd (behind_parts map part k laid.is_map le (omega arith) (omega arith)))
    (λ (ge : at + n ≤ k). same.after k ge)
    (cases_lt k (at + n)))
    (cases_lt k at))
  where
    inside : (s o k : ℕ) → o < map.sector_size → k ≡ s * map.sector_size + o → at ≤ k → k < at + n → IsIn map part s
    inside s o k lt is ge below =
        record {
          low = lower (first_of map part) s map.sector_size o (omega arith) lt;
          high =
              upper s (first_of map part + count_of map part) map.sector_size o (omega arith);
        }

-- The sectors of an unchanged part are unchanged.
pub sector_of_keeps : (map : SectorMap) (touched : Part → Bool) (old new : Chip) (part : Part) (s : ℕ)
    → IsLaidOut map old → Keeps map touched old new → touched part ≡ false → IsIn map part s → SameSector s old new
unfolding part_of
sector_of_keeps map touched old new part s laid keeps e at = record {
  each = λ k o eq lt.
      let o_lt : o < map.sector_size = subst (λ x. o < x) laid.sector_size lt in
      let k_is : k ≡ s * map.sector_size + o = eq ∙ ap (λ x. s * x + o) laid.sector_size in
      let low : first_of map part * map.sector_size ≤ s * map.sector_size =
      mul_le (first_of map part) s map.sector_size at.low in
      let high : s * map.sector_size + map.sector_size ≤
      (first_of map part + count_of map part) * map.sector_size =
      product_le s (first_of map part + count_of map part) map.sector_size at.high in
      let in_range : k - first_of map part * map.sector_size <
      (first_of map part + count_of map part) * map.sector_size - first_of map part * map.sector_size =
      omega arith in
      let is : first_of map part * map.sector_size + (k - first_of map part * map.sector_size) ≡ k = omega arith in
      ap (λ j. slice_index new.bytes j) (sym is)
      ∙ sym (range_at new.bytes (first_of map part * map.sector_size)
      ((first_of map part + count_of map part) * map.sector_size) _ in_range)
      ∙ ap (λ xs. get_or xs (k - first_of map part * map.sector_size) 0) (keeps.parts part e)
      ∙ range_at old.bytes (first_of map part * map.sector_size)
      ((first_of map part + count_of map part) * map.sector_size) _ in_range
      ∙ ap (λ j. slice_index old.bytes j) is;
}

-- A map is laid out on a flash that fits.
pub laid_out_by : (map : SectorMap) (chip : Chip) → IsMap map → chip.sector_size ≡ map.sector_size
    → sectors_of map ≤ chip.sectors → length chip.bytes ≡ chip.sectors * chip.sector_size
    → size_of chip < 2 ^ 32 → IsLaidOut map chip
laid_out_by map chip fits size sectors whole addressed =
    record { is_map = fits; sector_size = size; sectors = sectors; whole = whole; size = addressed }
