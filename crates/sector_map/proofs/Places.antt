-- Lemmas about the places of parts: parts don't overlap, and lie in the map's sectors.
use Rattle.std.proofs.Common.{◌≡◌, ℕ, zero, suc, ◌+◌, ◌*◌, ◌/◌, ◌^◌, ◌<◌, ◌≤◌, ◌==◌, ◌&&◌, Bool, true, false, List, [], ◌∷◌, take, get_or, slice_index, arith, sym, ◌∙◌, ap, subst, refl, ⊎_elim, add-one}
use Rattle.std.specs.List.{sum}
use Rattle.std.proofs.lemmas.List.Sums.{sum-map, sum_by-cons}
use Rattle.std.proofs.lemmas.List.{map-id}
use Rattle.std.proofs.lemmas.Bool.{cases_lt}
use Rattle.sector_map.specs.declared.layout.Side.{Side}
use Rattle.sector_map.specs.declared.layout.Side.TheVariants.{Primary, Secondary}
use Rattle.sector_map.specs.declared.layout.SectorMap.{SectorMap}
use Rattle.sector_map.specs.Part.{Part, Slot, TrailerOf, Scratch, Log, only, same_side}
use Rattle.sector_map.specs.Sizes.{before}
use Rattle.sector_map.specs.Map.{slot_sectors, side_start, first_of, count_of, sectors_of, IsMap, IsIn}
use Rattle.sector_map.proofs.Products.{mul_le}

sum-cons : (x : ℕ) (xs : List ℕ) → sum (x ∷ xs) ≡ x + sum xs
sum-cons x xs =
    ap sum (sym (map-id (x ∷ xs))) ∙ sum-map (λ n. n) (x ∷ xs) ∙ sum_by-cons (λ n. n) x xs
    ∙ ap (λ n. x + n) (sym (sum-map (λ n. n) xs) ∙ ap sum (map-id xs))

sum_step : (xs : List ℕ) (i : ℕ) → sum (take (suc i) xs) ≡ sum (take i xs) + get_or xs i 0
sum_step [] zero = refl
sum_step [] (suc i) = refl
sum_step (x ∷ xs) zero = sum-cons x [] ∙ omega arith
sum_step (x ∷ xs) (suc i) = sum-cons x (take (suc i) xs) ∙ omega (arith, sum_step xs i)
    ∙ ap (λ n. n + get_or xs i 0) (sym (sum-cons x (take i xs)))

pub before_none : (sectors : List ℕ) → before sectors 0 ≡ 0
unfolding before
before_none sectors = refl

pub before_step : (sectors : List ℕ) (i : ℕ) → before sectors (suc i) ≡ before sectors i + slice_index sectors i + 1
unfolding before
before_step sectors i = omega (arith, sum_step sectors i)

pub before_more : (sectors : List ℕ) (i : ℕ) → before sectors (i + 1) ≡ before sectors i + slice_index sectors i + 1
before_more sectors i = ap (λ k. before sectors k) (add-one i) ∙ before_step sectors i

-- The region of an image, its slot and trailer on one side, ends before the next one begins.
pub before_lt : (sectors : List ℕ) (i j : ℕ) → i < j → before sectors i + slice_index sectors i + 1 ≤ before sectors j
before_lt sectors i zero lt = absurd (omega arith)
before_lt sectors i (suc j) lt = ⊎_elim
    (λ (lt : i < j). omega (arith, before_lt sectors i j lt, before_step sectors j))
    (λ (le : j ≤ i). let same : i ≡ j = omega arith in
    subst (λ k. before sectors k + slice_index sectors k + 1 ≤ before sectors (suc j)) (sym same)
    (omega (arith, before_step sectors j)))
    (cases_lt i j)

-- A sector is whole units.
pub units_of : (map : SectorMap) → IsMap map → 8 * (map.sector_size / 8) ≡ map.sector_size
units_of map fits = omega (arith, fits.sector.blocks)

-- The numbers of sectors fit in 32 bits.
pub addressed : (map : SectorMap) → IsMap map → sectors_of map < 2 ^ 32
addressed map fits = omega
    (arith, mul_le 1 map.sector_size (sectors_of map) (omega (arith, fits.sector.least)), fits.addressed)

-- The region of an image ends within its side.
pub before_within : (map : SectorMap) (i : ℕ) → IsMap map → i < map.images
    → before map.sectors i + slot_sectors map i + 1 ≤ before map.sectors map.images
before_within map i fits lt = before_lt map.sectors i map.images lt

pub first_fits : (map : SectorMap) (i : ℕ) (side : Side) → IsMap map → i < map.images
    → side_start map side + before map.sectors i + slot_sectors map i < 2 ^ 32
first_fits map i Primary fits lt = omega (arith, before_lt map.sectors i map.images lt, addressed map fits)
first_fits map i Secondary fits lt = omega (arith, before_lt map.sectors i map.images lt, addressed map fits)

-- The rules for counting the sectors before an image.
pub ruleset counting = (before_none, before_more)

-- These rules, and those by which the numbers fit in 32 bits.
pub ruleset placing = (counting, before_within, addressed)

-- If an image has sectors, the map has the image.
pub there : (map : SectorMap) (i : ℕ) → IsMap map → 0 < slot_sectors map i → i < map.images
there map i fits some =
    ⊎_elim (λ lt. lt) (λ (le : map.images ≤ i). absurd (omega (arith, fits.lacks i le))) (cases_lt i map.images)

-- A sector is one of an image's on one side.
record IsInRegion (map : SectorMap) (i : ℕ) (side : Side) (s : ℕ) : Type 0 where
  pub there : i < map.images
  pub low : side_start map side + before map.sectors i ≤ s
  pub high : s ≤ side_start map side + before map.sectors i + slot_sectors map i

in_slot : (map : SectorMap) (i : ℕ) (side : Side) (s : ℕ) → IsMap map → IsIn map (Slot i side) s
    → IsInRegion map i side s
in_slot map i side s fits at =
    record { there = there map i fits (omega (arith, at.low, at.high)); low = at.low; high = omega (arith, at.high) }

in_trailer : (map : SectorMap) (i : ℕ) (side : Side) (s : ℕ) → IsMap map → IsIn map (TrailerOf i side) s
    → IsInRegion map i side s
in_trailer map i side s fits at =
    record {
      there = there map i fits (omega (arith, at.low, at.high));
      low = omega (arith, at.low);
      high =
          omega (arith, at.low, at.high);
    }

same_image : (map : SectorMap) (start i j s : ℕ) → start + before map.sectors i ≤ s
    → s ≤ start + before map.sectors i + slot_sectors map i
    → start + before map.sectors j ≤ s → s ≤ start + before map.sectors j + slot_sectors map j → i ≡ j
same_image map start i j s low high low' high' = ⊎_elim
    (λ (lt : i < j). absurd (omega (arith, before_lt map.sectors i j lt)))
    (λ (le : j ≤ i). ⊎_elim
    (λ (lt : j < i). absurd (omega (arith, before_lt map.sectors j i lt)))
    (λ (ge : i ≤ j). omega arith)
    (cases_lt j i))
    (cases_lt i j)

-- A sector lies in one region at most.
one_region : (map : SectorMap) (i j : ℕ) (a b : Side) (s : ℕ) → IsInRegion map i a s → IsInRegion map j b s
    → (i ≡ j) × (same_side a b ≡ true)
one_region map i j Primary Primary s p q = (same_image map 0 i j s p.low p.high q.low q.high, refl)
one_region map i j Primary Secondary s p q =
    absurd (omega (arith, p.high, q.low, before_lt map.sectors i map.images p.there))
one_region map i j Secondary Primary s p q =
    absurd (omega (arith, q.high, p.low, before_lt map.sectors j map.images q.there))
one_region map i j Secondary Secondary s p q =
    (same_image map (before map.sectors map.images) i j s p.low p.high q.low q.high, refl)

-- A region ends before the scratch sector.
before_scratch : (map : SectorMap) (i : ℕ) (side : Side) (s : ℕ) → IsInRegion map i side s
    → s < 2 * before map.sectors map.images
before_scratch map i Primary s p = omega (arith, p.high, before_lt map.sectors i map.images p.there)
before_scratch map i Secondary s p = omega (arith, p.high, before_lt map.sectors i map.images p.there)

-- The sectors of a part are sectors of the map.
pub within : (map : SectorMap) (part : Part) (s : ℕ) → IsMap map → IsIn map part s → s < sectors_of map
within map (Slot i side) s fits at = omega (arith, before_scratch map i side s (in_slot map i side s fits at))
within map (TrailerOf i side) s fits at = omega (arith, before_scratch map i side s (in_trailer map i side s fits at))
within map Scratch s fits at = omega (arith, at.high)
within map Log s fits at = omega (arith, at.high)

eq_refl : (i j : ℕ) (b : Bool) → i ≡ j → b ≡ true → ((i == j) && b) ≡ false → ⊥
eq_refl i j b e t f = grind (arith, e, t, f)

-- A slot and a trailer don't overlap.
slot_trailer : (map : SectorMap) (i j : ℕ) (a b : Side) (s : ℕ) → IsMap map → IsIn map (Slot i a) s
    → IsIn map (TrailerOf j b) s → ⊥
slot_trailer map i j a b s fits p q =
    at i j a b (one_region map i j a b s (in_slot map i a s fits p) (in_trailer map j b s fits q)) p q
  where
    at : (i j : ℕ) (a b : Side) → (i ≡ j) × (same_side a b ≡ true) → IsIn map (Slot i a) s
        → IsIn map (TrailerOf j b) s → ⊥
    at i j Primary Primary same p q =
        omega (arith, p.high, q.low, ap (λ k. before map.sectors k + slot_sectors map k) same.0)
    at i j Primary Secondary same p q = cc
    at i j Secondary Primary same p q = cc
    at i j Secondary Secondary same p q =
        omega (arith, p.high, q.low, ap (λ k. before map.sectors k + slot_sectors map k) same.0)

-- No sector lies in two parts.
pub apart : (map : SectorMap) (p q : Part) (s : ℕ) → IsMap map → only p q ≡ false → IsIn map p s → IsIn map q s → ⊥
apart map (Slot i a) (Slot j b) s fits ne x y =
    let same = one_region map j i b a s (in_slot map j b s fits y) (in_slot map i a s fits x) in
    eq_refl j i (same_side b a) same.0 same.1 ne
apart map (Slot i a) (TrailerOf j b) s fits ne x y = slot_trailer map i j a b s fits x y
apart map (Slot i a) Scratch s fits ne x y = omega (arith, y.low, before_scratch map i a s (in_slot map i a s fits x))
apart map (Slot i a) Log s fits ne x y = omega (arith, y.low, before_scratch map i a s (in_slot map i a s fits x))
apart map (TrailerOf i a) (Slot j b) s fits ne x y = slot_trailer map j i b a s fits y x
apart map (TrailerOf i a) (TrailerOf j b) s fits ne x y =
    let same = one_region map j i b a s (in_trailer map j b s fits y) (in_trailer map i a s fits x) in
    eq_refl j i (same_side b a) same.0 same.1 ne
apart map (TrailerOf i a) Scratch s fits ne x y =
    omega (arith, y.low, before_scratch map i a s (in_trailer map i a s fits x))
apart map (TrailerOf i a) Log s fits ne x y =
    omega (arith, y.low, before_scratch map i a s (in_trailer map i a s fits x))
apart map Scratch (Slot j b) s fits ne x y = omega (arith, x.low, before_scratch map j b s (in_slot map j b s fits y))
apart map Scratch (TrailerOf j b) s fits ne x y =
    omega (arith, x.low, before_scratch map j b s (in_trailer map j b s fits y))
apart map Scratch Scratch s fits ne x y = cc
apart map Scratch Log s fits ne x y = omega (arith, x.high, y.low)
apart map Log (Slot j b) s fits ne x y = omega (arith, x.low, before_scratch map j b s (in_slot map j b s fits y))
apart map Log (TrailerOf j b) s fits ne x y =
    omega (arith, x.low, before_scratch map j b s (in_trailer map j b s fits y))
apart map Log Scratch s fits ne x y = omega (arith, y.high, x.low)
apart map Log Log s fits ne x y = cc

-- The first sector of a part that has sectors is a sector of the map.
pub first_within : (map : SectorMap) (part : Part) → IsMap map → 0 < count_of map part
    → first_of map part < sectors_of map
first_within map part fits some =
    within map part (first_of map part) fits (record { low = omega arith; high = omega arith })

-- The first sectors of an image's slots and trailers are sectors of the map.
pub slot_within : (map : SectorMap) (i : ℕ) (side : Side) → IsMap map → i < map.images
    → first_of map (Slot i side) < sectors_of map
slot_within map i side fits lt = first_within map (Slot i side) fits (fits.counts.some i lt)

pub trailer_within : (map : SectorMap) (i : ℕ) (side : Side) → IsMap map → i < map.images
    → first_of map (TrailerOf i side) < sectors_of map
trailer_within map i side fits lt = first_within map (TrailerOf i side) fits (omega (arith, fits.counts.some i lt))
