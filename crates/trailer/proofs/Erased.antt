-- Lemmas about erased bytes, and about what they say in a trailer.
use Rattle.std.proofs.Common.{◌≡◌, ℕ, ◌+◌, ◌-◌, ◌*◌, ◌<◌, ◌≤◌, ◌&&◌, Bool, true, false, arith, sym, ◌∙◌, ap, refl, List, [], ◌∷◌, length, get_or, slice_index, slice_range, take, drop, Some, None, if◌then◌else◌, nat_lt, nat_le, IsTrue, ◌↔◌, take_all}
use Rattle.std.proofs.lemmas.List.{get_or-drop}
use Rattle.std.proofs.lemmas.Slice.Eq.{bytes_eq-Decides}
use Rattle.std.specs.Str.{bytes_eq}
use Rattle.byteorder.specs.Endian.{little_number}
use Rattle.flash_model.specs.Chip.{Chip, IsErased}
use Rattle.flash_model.proofs.Erased.{each_erased, erased_each}
use Rattle.flash_model.proofs.Ranges.{length_range, range_at}
use Rattle.sector_map.specs.declared.layout.SectorMap.{SectorMap}
use Rattle.sector_map.specs.declared.layout.Side.{Side}
use Rattle.sector_map.specs.Part.{Part, TrailerOf}
use Rattle.sector_map.specs.Map.{first_of, start_of, length_of, part_of, slot_sectors, IsLaidOut}
use Rattle.trailer.specs.declared.kinds.Magic.TheVariants.{Good, Unset, Bad}
use Rattle.flash_model.specs.Units.{are_erased}
use Rattle.trailer.specs.Fields.{good_magic, magic_in, size_in, bytes_in, bytes_at, fields_in, fields_at, trailer_bytes, erased_fields, place_of}
use Rattle.sector_map.proofs.PartBytes.{length_part, part_at, part_erased_at}
use Rattle.trailer.proofs.Places.{trailer_size}

pub not_true : (b : Bool) → (b ≡ true → ⊥) → b ≡ false
not_true true never = absurd (never refl)
not_true false never = refl

-- A range of erased bytes is erased.
pub erased_range : (bytes : List ℕ) (a b : ℕ) → are_erased bytes ≡ true → are_erased (slice_range bytes a b) ≡ true
erased_range bytes a b all = each_erased (slice_range bytes a b) (λ k lt.
    let in_range : k < b - a = omega (arith, length_range bytes a b) in
    let below : a + k < length bytes = omega (arith, length_range bytes a b) in
    range_at bytes a b k in_range ∙ erased_each bytes (a + k) all below)

-- Erased bytes are an unset magic.
pub magic_erased : (bytes : List ℕ) → are_erased bytes ≡ true → magic_in bytes ≡ Unset
magic_erased bytes all = by (bytes_eq bytes good_magic) refl
  where
    by : (same : Bool) → bytes_eq bytes good_magic ≡ same → magic_in bytes ≡ Unset
    by true e =
        let is : bytes ≡ good_magic = (bytes_eq-Decides bytes good_magic).0 e in
        let wrong : are_erased good_magic ≡ true = ap (λ (xs : List ℕ). are_erased xs) (sym is) ∙ all in absurd
        (cc wrong)
    by false e = ap (λ same. if same then Good else if are_erased bytes then Unset else Bad) e ∙ ap
        (λ t. if t then Unset else Bad) all

and_false : (a b c : Bool) → c ≡ false → (a && (b && c)) ≡ false
and_false true true c e = e
and_false true false c e = refl
and_false false b c e = refl

-- Erased bytes are no size.
pub size_erased : (limit : ℕ) (unit : List ℕ) → 4 < length unit → are_erased unit ≡ true → size_in limit unit ≡ None
size_erased limit unit long all =
    ap (λ (t : Bool). if t then Some (little_number 4 unit) else None)
    (and_false (nat_lt 0 (little_number 4 unit)) (nat_le (little_number 4 unit) limit)
    (bytes_eq (drop 4 unit) (0 ∷ 0 ∷ 0 ∷ 0 ∷ [])) (by (bytes_eq (drop 4 unit) (0 ∷ 0 ∷ 0 ∷ 0 ∷ [])) refl))
  where
    by : (same : Bool) → bytes_eq (drop 4 unit) (0 ∷ 0 ∷ 0 ∷ 0 ∷ []) ≡ same → bytes_eq (drop 4 unit)
        (0 ∷ 0 ∷ 0 ∷ 0 ∷ []) ≡ false
    by true e =
        let is : drop 4 unit ≡ 0 ∷ 0 ∷ 0 ∷ 0 ∷ [] = (bytes_eq-Decides (drop 4 unit) (0 ∷ 0 ∷ 0 ∷ 0 ∷ [])).0 e in
        let first : get_or unit 4 0 ≡ 0 = sym (get_or-drop 4 unit 0 0) ∙ ap (λ (xs : List ℕ). get_or xs 0 0) is in
        absurd (omega (arith, first, erased_each unit 4 all long))
    by false e = e

-- Erased bytes of a trailer have the fields of an erased one.
pub fields_erased : (n e : ℕ) (bytes : List ℕ) → are_erased bytes ≡ true → length bytes ≡ e → 56 ≤ e
    → fields_in n e bytes ≡ erased_fields
unfolding fields_in
fields_erased n e bytes all long large =
    let here : (a b : ℕ) → are_erased (slice_range bytes a b) ≡ true = λ a b. erased_range bytes a b all in
    let unit : 4 < length (bytes_in e bytes 48 8) = omega (arith, length_range bytes (e - 48) (e - 48 + 8)) in
    rw (
      magic_erased (bytes_in e bytes 16 16) (here _ _),
      here (e - 32) (e - 32 + 8),
      here (e - 24) (e - 24 + 8),
      here
          (e - 56) (e - 56 + 8),
      size_erased (n * e) (bytes_in e bytes 48 8) unit (here _ _),
      here 0 (24 * n),
    ) refl

-- An erased range of the flash is an erased range of the part.
pub range_erased : (map : SectorMap) (chip : Chip) (part : Part) (at n a b : ℕ) → IsErased chip at n
    → IsLaidOut map chip → b ≤ length_of map part
    → at ≤ start_of map part + a → start_of map part + b ≤ at + n → are_erased
    (slice_range (part_of map chip part) a b) ≡ true
range_erased map chip part at n a b erased laid le low high = each_erased (slice_range (part_of map chip part) a b)
    (λ k lt.
    let in_range : k < b - a = omega (arith, length_range (part_of map chip part) a b) in
    range_at (part_of map chip part) a b k in_range ∙ part_erased_at map chip part at n (a + k) erased (omega arith)
    (omega arith) (omega arith))

-- An erased range of a part is an erased range of the flash.
pub range_is_erased : (map : SectorMap) (chip : Chip) (part : Part) (at n a b : ℕ)
    → are_erased (slice_range (part_of map chip part) a b) ≡ true
    → IsLaidOut map chip → b ≤ length_of map part → at ≡ start_of map part + a → a + n ≡ b → IsErased chip at n
range_is_erased map chip part at n a b all laid le is width = record {
  each = λ k low high.
      let in_range : k - at < b - a = omega arith in
      let place : start_of map part + (a + (k - at)) ≡ k = omega arith in
      ap (λ j. slice_index chip.bytes j) (sym place) ∙ sym (part_at map chip part (a + (k - at)) (omega arith)) ∙ sym
      (range_at (part_of map chip part) a b (k - at) in_range)
      ∙ erased_each (slice_range (part_of map chip part) a b) (k - at) all
      (omega (arith, length_range (part_of map chip part) a b, length_part map chip part laid));
}

-- A test of erased bytes of the flash is a test of the part's bytes.
pub tells_range : (map : SectorMap) (chip : Chip) (part : Part) (at n a b : ℕ) (told : Bool)
    → (IsTrue told ↔ IsErased chip at n) → IsLaidOut map chip → b ≤ length_of map part
    → at ≡ start_of map part + a → a + n ≡ b → told ≡ are_erased (slice_range (part_of map chip part) a b)
tells_range map chip part at n a b true tells laid le is width = sym
    (range_erased map chip part at n a b (tells.0 refl) laid le (omega arith) (omega arith))
tells_range map chip part at n a b false tells laid le is width = sym
    (not_true (are_erased (slice_range (part_of map chip part) a b)) (λ all.
    let wrong : false ≡ true = tells.1 (range_is_erased map chip part at n a b all laid le is width) in cc))

-- A trailer has the bytes of its sector.
pub trailer_length : (map : SectorMap) (chip : Chip) (image : ℕ) (side : Side) → IsLaidOut map chip
    → image < map.images → length (trailer_bytes map chip image side) ≡ map.sector_size
trailer_length map chip image side laid lt = length_part map chip (TrailerOf image side) laid ∙ trailer_size map image
    side laid.is_map lt

whole_range : (bytes : List ℕ) (e : ℕ) → length bytes ≡ e → slice_range bytes 0 e ≡ bytes
whole_range bytes e long = ap (λ n. take n bytes) (let all : e - 0 ≡ e = omega arith in all) ∙ take_all e bytes
    (omega (arith, long))

whole_trailer : (map : SectorMap) (chip : Chip) (image : ℕ) (side : Side) → IsLaidOut map chip → image < map.images
    → slice_range (trailer_bytes map chip image side) 0 map.sector_size ≡ trailer_bytes map chip image side
whole_trailer map chip image side laid lt = whole_range (trailer_bytes map chip image side) map.sector_size
    (trailer_length map chip image side laid lt)

-- A test of all bytes of a trailer's sector is a test of the trailer.
pub whole_erased : (map : SectorMap) (chip : Chip) (image : ℕ) (side : Side) → IsLaidOut map chip
    → image < map.images → are_erased (slice_range (trailer_bytes map chip image side) 0 (0 + map.sector_size))
    ≡ are_erased (trailer_bytes map chip image side)
whole_erased map chip image side laid lt =
    ap (λ n. are_erased (slice_range (trailer_bytes map chip image side) 0 n))
    (let all : 0 + map.sector_size ≡ map.sector_size = omega arith in all)
    ∙ ap (λ (xs : List ℕ). are_erased xs) (whole_trailer map chip image side laid lt)

-- A trailer is erased if its sector is.
pub trailer_erased : (map : SectorMap) (chip : Chip) (image sector n : ℕ) (side : Side) → IsErased chip (sector * n) n
    → IsLaidOut map chip → image < map.images
    → sector ≡ first_of map (TrailerOf image side) → n ≡ map.sector_size → are_erased
    (trailer_bytes map chip image side) ≡ true
trailer_erased map chip image sector n side erased laid lt is width =
    let start : sector * n ≡ start_of map (TrailerOf image side) = ap (λ s. s * n) is ∙ ap
    (λ e. first_of map (TrailerOf image side) * e) width in
    ap (λ (xs : List ℕ). are_erased xs) (sym (whole_trailer map chip image side laid lt))
    ∙ range_erased map chip (TrailerOf image side) (sector * n) n 0 map.sector_size erased laid
    (omega (arith, trailer_size map image side laid.is_map lt)) (omega (arith, start)) (omega (arith, start))

-- Erased units of a trailer are erased on the flash.
pub units_erased : (map : SectorMap) (chip : Chip) (image at from_end n : ℕ) (side : Side)
    → are_erased (bytes_at map chip image side from_end n) ≡ true → IsLaidOut map chip → image < map.images
    → at ≡ place_of map image side from_end → n ≤ from_end → from_end ≤ map.sector_size → IsErased chip at n
units_erased map chip image at from_end n side all laid lt is room le =
    range_is_erased map chip (TrailerOf image side) at n (map.sector_size - from_end) (map.sector_size - from_end + n)
    all laid (omega (arith, trailer_size map image side laid.is_map lt)) (omega arith) (omega arith)

-- The fields of an erased trailer are `erased_fields`.
pub erased_fields_at : (map : SectorMap) (chip : Chip) (image : ℕ) (side : Side)
    → are_erased (trailer_bytes map chip image side) ≡ true → IsLaidOut map chip → image < map.images
    → fields_at map chip image side ≡ erased_fields
unfolding fields_at
erased_fields_at map chip image side all laid lt = fields_erased (slot_sectors map image) map.sector_size
    (trailer_bytes map chip image side) all (trailer_length map chip image side laid lt)
    (omega (arith, laid.is_map.trailers image))
