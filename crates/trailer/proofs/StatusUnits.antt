-- Lemmas about status units, and about how many of them are set.
use Rattle.std.proofs.Common.{◌==◌, ◌≡◌, ℕ, zero, suc, ◌+◌, ◌-◌, ◌*◌, ◌/◌, ◌%◌, ◌<◌, ◌≤◌, Bool, true, false, arith, sym, ◌∙◌, ap, refl, inl, inr, ⊎_elim, List, take, drop, slice_index, slice_range, if◌then◌else◌}
use Rattle.std.proofs.lemmas.Bool.{cases_lt, eqb-true, ne_eqb}
use Rattle.std.proofs.lemmas.List.{drop-drop, ext_get_or}
use Rattle.flash_model.specs.Chip.{Chip, IsErased, SameOutside}
use Rattle.flash_model.specs.Units.{IsSet}
use Rattle.flash_model.proofs.Erased.{each_erased, erased_each}
use Rattle.flash_model.proofs.Ranges.{length_range, range_at}
use Rattle.flash_model.proofs.Units.{aligned}
use Rattle.sector_map.specs.declared.layout.SectorMap.{SectorMap}
use Rattle.sector_map.specs.declared.layout.Side.{Side}
use Rattle.sector_map.specs.Part.{TrailerOf, only}
use Rattle.sector_map.specs.Map.{slot_sectors, first_of, start_of, IsMap, IsLaidOut, Keeps}
use Rattle.sector_map.proofs.Parts.{laid_out_kept}
use Rattle.sector_map.proofs.PartBytes.{keeps_write}
use Rattle.flash_model.specs.Units.{are_erased}
use Rattle.trailer.specs.Fields.{is_set, magic_in, size_in, trailer_bytes, fields_in, fields_at}
use Rattle.trailer.specs.Status.{are_units_erased, is_block_set, status_unit, set_units, status_count_of}
use Rattle.trailer.proofs.Places.{trailer_size, range_besides}
use Rattle.trailer.proofs.Erased.{not_true, range_is_erased}
use Rattle.trailer.proofs.OwnFields.{same_fields}

pub status_fit : (map : SectorMap) (image : ℕ) → IsMap map → 24 * slot_sectors map image + 56 ≤ map.sector_size
status_fit map image fits = fits.trailers image

units_step : (bytes : List ℕ) (n : ℕ) → set_units bytes (suc n) ≡
    (if are_erased (take 8 bytes) then 0 else set_units (drop 8 bytes) n + 1)
unfolding set_units
units_step bytes n = refl

units_none : (bytes : List ℕ) → set_units bytes 0 ≡ 0
unfolding set_units
units_none bytes = refl

-- The units after the first one.
unit_behind : (bytes : List ℕ) (j : ℕ) → status_unit (drop 8 bytes) j ≡ status_unit bytes (suc j)
unit_behind bytes j =
    let width : 8 * j + 8 - 8 * j ≡ 8 * suc j + 8 - 8 * suc j = omega arith in
    let place : 8 * j + 8 ≡ 8 * suc j = omega arith in
    ap (λ xs. take (8 * j + 8 - 8 * j) xs) (drop-drop (8 * j) 8 bytes ∙ ap (λ n. drop n bytes)
    (let e : 8 + 8 * j ≡ 8 * suc j = omega arith in e)) ∙ ap (λ n. take n (drop (8 * suc j) bytes)) width

unit_first : (bytes : List ℕ) → status_unit bytes 0 ≡ take 8 bytes
unit_first bytes = refl

-- Each unit within an erased range is erased.
pub unit_in_range : (bytes : List ℕ) (a b j : ℕ) → are_erased (slice_range bytes a b) ≡ true → a ≤ 8 * j
    → 8 * j + 8 ≤ b → are_erased (status_unit bytes j) ≡ true
unit_in_range bytes a b j all low high = each_erased (status_unit bytes j) (λ k small.
    let in_unit : k < 8 * j + 8 - 8 * j = omega (arith, small, length_range bytes (8 * j) (8 * j + 8)) in
    range_at bytes (8 * j) (8 * j + 8) k in_unit
    ∙ ap (λ n. slice_index bytes n) (let e : 8 * j + k ≡ a + (8 * j + k - a) = omega arith in e)
    ∙ sym (range_at bytes a b (8 * j + k - a) (omega arith))
    ∙ erased_each (slice_range bytes a b) (8 * j + k - a) all
    (omega (arith, small, length_range bytes (8 * j) (8 * j + 8), length_range bytes a b)))

-- Each of some status units is erased if all are.
pub each_unit : (bytes : List ℕ) (from n j : ℕ) → are_units_erased bytes from n ≡ true → from ≤ j → j < from + n
    → are_erased (status_unit bytes j) ≡ true
each_unit bytes from n j all low high = unit_in_range bytes (8 * from) (8 * from + 8 * n) j all (omega arith)
    (omega arith)

-- The count of set units is c if the first c units are set and the next one is erased.
pub units_are : (bytes : List ℕ) (n c : ℕ) → c ≤ n → ((j : ℕ) → j < c → are_erased (status_unit bytes j) ≡ false)
    → (c < n → are_erased (status_unit bytes c) ≡ true) → set_units bytes n ≡ c
units_are bytes zero c le set free = units_none bytes ∙ omega arith
units_are bytes (suc n) zero le set free =
    units_step bytes n ∙ ap (λ b. if b then 0 else set_units (drop 8 bytes) n + 1)
    (ap (λ (xs : List ℕ). are_erased xs) (sym (unit_first bytes)) ∙ free (omega arith))
units_are bytes (suc n) (suc c) le set free =
    let first : are_erased (take 8 bytes) ≡ false = ap (λ (xs : List ℕ). are_erased xs) (sym (unit_first bytes)) ∙ set
    0 (omega arith) in
    let more : set_units (drop 8 bytes) n ≡ c = units_are (drop 8 bytes) n c (omega (arith, le))
    (λ j lt. ap (λ (xs : List ℕ). are_erased xs) (unit_behind bytes j) ∙ set (suc j) (omega (arith, lt)))
    (λ lt. ap (λ (xs : List ℕ). are_erased xs) (unit_behind bytes c) ∙ free (omega (arith, lt))) in
    units_step bytes n ∙ ap (λ b. if b then 0 else set_units (drop 8 bytes) n + 1) first ∙ ap (λ m. m + 1) more ∙ omega
    arith

-- The count of set units is at least c if the first c units are set.
pub counts_past : (bytes : List ℕ) (n c : ℕ) → c ≤ n → ((j : ℕ) → j < c → are_erased (status_unit bytes j) ≡ false)
    → c ≤ set_units bytes n
counts_past bytes n zero le set = omega arith
counts_past bytes zero (suc c) le set = absurd (omega (arith, le))
counts_past bytes (suc n) (suc c) le set =
    let first : are_erased (take 8 bytes) ≡ false = ap (λ (xs : List ℕ). are_erased xs) (sym (unit_first bytes)) ∙ set
    0 (omega arith) in
    let more : c ≤ set_units (drop 8 bytes) n = counts_past (drop 8 bytes) n c (omega (arith, le))
    (λ j lt. ap (λ (xs : List ℕ). are_erased xs) (unit_behind bytes j) ∙ set (suc j) (omega (arith, lt))) in
    omega (arith, more, units_step bytes n ∙ ap (λ b. if b then 0 else set_units (drop 8 bytes) n + 1) first)

-- Each unit below the count is set.
pub set_below : (bytes : List ℕ) (n j : ℕ) → j < set_units bytes n → are_erased (status_unit bytes j) ≡ false
set_below bytes zero j lt = absurd (omega (arith, lt, units_none bytes))
set_below bytes (suc n) j lt = by (λ j lt. set_below (drop 8 bytes) n j lt) (are_erased (take 8 bytes)) refl j lt
  where
    by : ((j : ℕ) → j < set_units (drop 8 bytes) n → are_erased (status_unit (drop 8 bytes) j) ≡ false) →
        (first : Bool) → are_erased (take 8 bytes) ≡ first → (j : ℕ) → j < set_units bytes (suc n) → are_erased
        (status_unit bytes j) ≡ false
    by behind true e j lt = absurd (omega (
      arith,
      lt,
      units_step bytes n ∙ ap
          (λ b. if b then 0 else set_units (drop 8 bytes) n + 1) e,
    ))
    by behind false e zero lt = ap (λ (xs : List ℕ). are_erased xs) (unit_first bytes) ∙ e
    by behind false e (suc j) lt =
        let count : set_units bytes (suc n) ≡ set_units (drop 8 bytes) n + 1 = units_step bytes n ∙ ap
        (λ b. if b then 0 else set_units (drop 8 bytes) n + 1) e in
        ap (λ (xs : List ℕ). are_erased xs) (sym (unit_behind bytes j)) ∙ behind j (omega (arith, lt, count))

-- No more units are counted than there are.
pub counts_within : (bytes : List ℕ) (n : ℕ) → set_units bytes n ≤ n
counts_within bytes zero = omega (arith, units_none bytes)
counts_within bytes (suc n) = by (counts_within (drop 8 bytes) n) (are_erased (take 8 bytes)) refl
  where
    by : set_units (drop 8 bytes) n ≤ n → (first : Bool) → are_erased (take 8 bytes) ≡ first
        → set_units bytes (suc n) ≤ suc n
    by more true e =
        let count : set_units bytes (suc n) ≡ 0 = units_step bytes n ∙ ap
        (λ b. if b then 0 else set_units (drop 8 bytes) n + 1) e in
        omega (arith, count)
    by more false e =
        let count : set_units bytes (suc n) ≡ set_units (drop 8 bytes) n + 1 = units_step bytes n ∙ ap
        (λ b. if b then 0 else set_units (drop 8 bytes) n + 1) e in
        omega (arith, count, more)

-- If the units before number c are set, and unit c is erased or the last one is before it, the
-- count is c.
pub counts_to : (bytes : List ℕ) (n c : ℕ) → c ≤ n → c ≤ set_units bytes n
    → (c < n → are_erased (status_unit bytes c) ≡ true) → set_units bytes n ≡ c
counts_to bytes n c le some free = units_are bytes n c le (λ j lt. set_below bytes n j (omega (arith, lt, some))) free

-- The unit at the count is erased.
pub free_at : (bytes : List ℕ) (n : ℕ) → set_units bytes n < n
    → are_erased (status_unit bytes (set_units bytes n)) ≡ true
free_at bytes zero lt = absurd (omega (arith, lt))
free_at bytes (suc n) lt = by (λ lt. free_at (drop 8 bytes) n lt) (are_erased (take 8 bytes)) refl
  where
    by : (set_units (drop 8 bytes) n < n → are_erased (status_unit (drop 8 bytes) (set_units (drop 8 bytes) n)) ≡ true)
        → (first : Bool) → are_erased (take 8 bytes) ≡ first → are_erased (status_unit bytes (set_units bytes (suc n)))
        ≡ true
    by behind true e =
        let count : set_units bytes (suc n) ≡ 0 = units_step bytes n ∙ ap
        (λ b. if b then 0 else set_units (drop 8 bytes) n + 1) e in
        ap (λ k. are_erased (status_unit bytes k)) count ∙ ap (λ (xs : List ℕ). are_erased xs) (unit_first bytes) ∙ e
    by behind false e =
        let count : set_units bytes (suc n) ≡ suc (set_units (drop 8 bytes) n) = units_step bytes n ∙ ap
        (λ b. if b then 0 else set_units (drop 8 bytes) n + 1) e ∙ omega arith in
        ap (λ k. are_erased (status_unit bytes k)) count ∙ ap (λ (xs : List ℕ). are_erased xs)
        (sym (unit_behind bytes (set_units (drop 8 bytes) n)))
        ∙ behind (omega (arith, lt, count))

-- A unit of a block of eight is a unit of the trailer.
block_unit : (bytes : List ℕ) (from i : ℕ) → i < 8
    → status_unit (slice_range bytes (8 * from) (8 * from + 64)) i ≡ status_unit bytes (from + i)
block_unit bytes from i lt =
    let block = slice_range bytes (8 * from) (8 * from + 64) in
    ext_get_or 0 (status_unit block i) (status_unit bytes (from + i))
    (length_range block (8 * i) (8 * i + 8) ∙ omega (
      arith,
      lt,
      length_range bytes (8 * from) (8 * from + 64),
      length_range bytes (8 * (from + i)) (8 * (from + i) + 8),
    ))
    (λ k small.
    let in_unit : k < 8 * i + 8 - 8 * i = omega (arith, small, length_range block (8 * i) (8 * i + 8)) in
    let in_block : 8 * i + k < 8 * from + 64 - 8 * from = omega (arith, in_unit, lt) in
    let in_other : k < 8 * (from + i) + 8 - 8 * (from + i) = omega (arith, in_unit) in
    range_at block (8 * i) (8 * i + 8) k in_unit
    ∙ range_at bytes (8 * from) (8 * from + 64) (8 * i + k) in_block
    ∙ ap (λ n. slice_index bytes n) (let e : 8 * from + (8 * i + k) ≡ 8 * (from + i) + k = omega arith in e)
    ∙ sym (range_at bytes (8 * (from + i)) (8 * (from + i) + 8) k in_other))

-- If the units before number `from` are set, and the eight from there on, the count is past these.
pub passed_block : (bytes : List ℕ) (n from : ℕ) → from ≤ set_units bytes n → from + 8 ≤ n
    → is_block_set bytes from ≡ true → from + 8 ≤ set_units bytes n
passed_block bytes n from before within all = counts_past bytes n (from + 8) within (λ j lt. ⊎_elim
    (λ (below : j < from). set_below bytes n j (omega (arith, below, before)))
    (λ (above : from ≤ j).
    let i : j - from < 8 = omega (arith, lt, above) in
    let place : from + (j - from) ≡ j = omega (arith, above) in
    let counted : set_units (slice_range bytes (8 * from) (8 * from + 64)) 8 ≡ 8 = eqb-true _ _ all in
    ap (λ k. are_erased (status_unit bytes k)) (sym place)
    ∙ ap (λ (xs : List ℕ). are_erased xs) (sym (block_unit bytes from (j - from) i))
    ∙ set_below (slice_range bytes (8 * from) (8 * from + 64)) 8 (j - from) (omega (arith, i, counted)))
    (cases_lt j from))

-- Eight units are all set exactly if they are counted.
pub block_is_set : (block : List ℕ) → ((j : ℕ) → j < 8 → are_erased (status_unit block j) ≡ false)
    → (set_units block 8 == 8) ≡ true
block_is_set block set = ap (λ n. n == 8) (units_are block 8 8 (omega arith) set (λ lt. absurd (omega (arith, lt))))

pub block_is_not_set : (block : List ℕ) (unit : ℕ) → unit < 8
    → ((j : ℕ) → j < unit → are_erased (status_unit block j) ≡ false) → are_erased (status_unit block unit) ≡ true
    → (set_units block 8 == 8) ≡ false
block_is_not_set block unit lt set free =
    ap (λ n. n == 8) (units_are block 8 unit (omega (arith, lt)) set (λ below. free))
    ∙ ne_eqb unit 8 (λ e. absurd (omega (arith, e, lt)))

-- The first erased status unit of a trailer is erased on the flash.
pub status_is_erased : (map : SectorMap) (chip : Chip) (image at count : ℕ) (side : Side) → IsLaidOut map chip
    → image < map.images → count ≡ status_count_of map chip image side
    → count < 3 * slot_sectors map image → at ≡ start_of map (TrailerOf image side) + 8 * count → IsErased chip at 8
status_is_erased map chip image at count side laid lt is below place =
    let free : are_erased (status_unit (trailer_bytes map chip image side) count) ≡ true =
    ap (λ k. are_erased (status_unit (trailer_bytes map chip image side) k)) is ∙ free_at
    (trailer_bytes map chip image side) (3 * slot_sectors map image) (omega arith) in
    range_is_erased map chip (TrailerOf image side) at 8 (8 * count) (8 * count + 8) free laid
    (omega (arith, trailer_size map image side laid.is_map lt, laid.is_map.trailers image)) (omega arith)
    (omega arith)

pub status_aligned : (map : SectorMap) (image count : ℕ) (side : Side) → IsMap map
    → (start_of map (TrailerOf image side) + 8 * count) % 8 ≡ 0
status_aligned map image count side fits =
    let units : 8 * (map.sector_size / 8) ≡ map.sector_size = omega (arith, fits.sector.blocks) in
    omega (arith, aligned (first_of map (TrailerOf image side)) map.sector_size units)

-- A write of a status unit leaves all other parts unchanged.
pub status_alone : (map : SectorMap) (old new : Chip) (image at count : ℕ) (side : Side) → SameOutside at 8 old new
    → IsLaidOut map old → image < map.images
    → at ≡ start_of map (TrailerOf image side) + 8 * count → count < 3 * slot_sectors map image → Keeps map
    (only (TrailerOf image side)) old new
status_alone map old new image at count side same laid lt is below =
    keeps_write map (TrailerOf image side) (8 * count) at 8 old new laid same is
    (omega (arith, trailer_size map image side laid.is_map lt, laid.is_map.trailers image))

-- A write of a status unit leaves all other fields unchanged.
pub own_status : (map : SectorMap) (old new : Chip) (image at count : ℕ) (side : Side) → SameOutside at 8 old new
    → IsMap map → image < map.images
    → at ≡ start_of map (TrailerOf image side) + 8 * count → count < 3 * slot_sectors map image
    → fields_at map new image side ≡ record (fields_at map old image side)
    { is_fresh = (fields_at map new image side).is_fresh }
unfolding fields_at fields_in
own_status map old new image at count side same fits lt is below =
    let kept = λ (from_end n : ℕ) (n_le : n ≤ from_end) (le : from_end ≤ 56).
    range_besides map old new (TrailerOf image side) at 8 (map.sector_size - from_end) (map.sector_size - from_end + n)
    same (omega (arith, trailer_size map image side fits lt, fits.trailers image))
    (inr (omega (arith, fits.trailers image))) in
    same_fields _ _ (ap magic_in (kept 16 16 (omega arith) (omega arith)))
    (ap is_set (kept 32 8 (omega arith) (omega arith)))
    (ap is_set (kept 24 8 (omega arith) (omega arith)))
    (ap is_set (kept 56 8 (omega arith) (omega arith)))
    (ap (size_in (slot_sectors map image * map.sector_size)) (kept 48 8 (omega arith) (omega arith)))
    refl

-- Setting the first erased status unit increases the count.
pub pushed : (map : SectorMap) (old new : Chip) (image at count : ℕ) (side : Side) → SameOutside at 8 old new
    → IsSet new at → IsLaidOut map old → image < map.images
    → count ≡ status_count_of map old image side → count < 3 * slot_sectors map image → at ≡ start_of map
    (TrailerOf image side) + 8 * count
    → status_count_of map old image side < status_count_of map new image side
pushed map old new image at count side same set laid lt is below place =
    let new_laid = laid_out_kept map _ old new laid (status_alone map old new image at count side same laid lt place
    below) in
    let size = trailer_size map image side laid.is_map lt in
    let past = counts_past (trailer_bytes map new image side) (3 * slot_sectors map image) (suc count) (omega arith)
    (λ j below_next. ⊎_elim
    (λ (before : j < count).
    ap (λ (xs : List ℕ). are_erased xs) (range_besides map old new (TrailerOf image side) at 8 (8 * j) (8 * j + 8) same
    (omega (arith, size, laid.is_map.trailers image)) (inl (omega arith)))
    ∙ set_below (trailer_bytes map old image side) (3 * slot_sectors map image) j (omega arith))
    (λ (last : count ≤ j).
    not_true (are_erased (status_unit (trailer_bytes map new image side) j)) (λ all. set.not_erased
    (range_is_erased map new (TrailerOf image side) at 8 (8 * j) (8 * j + 8) all new_laid
    (omega (arith, size, laid.is_map.trailers image)) (omega arith) (omega arith))))
    (cases_lt j count)) in
    omega (arith, past)
