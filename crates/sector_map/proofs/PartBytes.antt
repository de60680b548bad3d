-- Lemmas about the bytes of a part by offset, and about what a write leaves of them.
use Rattle.std.proofs.Common.{◌≡◌, ◌⊎◌, ℕ, ◌+◌, ◌-◌, ◌*◌, ◌<◌, ◌≤◌, List, length, slice_index, slice_range, arith, sym, ◌∙◌, ap, ⊎_elim}
use Rattle.std.proofs.lemmas.Bool.{cases_lt}
use Rattle.std.proofs.lemmas.List.{ext_get_or}
use Rattle.flash_model.specs.Chip.{Chip, Reads, IsErased, SameOutside, size_of}
use Rattle.flash_model.proofs.Frame.{product_le}
use Rattle.flash_model.proofs.Ranges.{length_range, range_at}
use Rattle.sector_map.specs.declared.layout.SectorMap.{SectorMap}
use Rattle.sector_map.specs.Part.{Part, only}
use Rattle.sector_map.specs.Map.{first_of, count_of, start_of, length_of, sectors_of, IsLaidOut, IsIn, Keeps, part_of}
use Rattle.sector_map.proofs.Products.{mul_le}
use Rattle.sector_map.proofs.Places.{within}
use Rattle.sector_map.proofs.Parts.{keeps_others}

-- The address at which a part ends.
pub end_of : (map : SectorMap) (part : Part)
    → (first_of map part + count_of map part) * map.sector_size ≡ start_of map part + length_of map part
end_of map part = grind arith

-- A part that has sectors ends in the flash.
pub part_inside : (map : SectorMap) (chip : Chip) (part : Part) → IsLaidOut map chip → 0 < count_of map part
    → start_of map part + length_of map part ≤ size_of chip
part_inside map chip part laid some =
    let last : first_of map part + count_of map part - 1 < sectors_of map =
    within map part (first_of map part + count_of map part - 1) laid.is_map
    (record { low = omega arith; high = omega arith }) in
    let sectors : first_of map part + count_of map part ≤ chip.sectors = omega (arith, last, laid.sectors) in
    let inside : (first_of map part + count_of map part) * map.sector_size ≤ chip.sectors * map.sector_size =
    mul_le (first_of map part + count_of map part) chip.sectors map.sector_size sectors in
    omega (arith, inside, end_of map part, ap (λ e. chip.sectors * e) laid.sector_size)

-- A range of a part lies in the flash.
pub range_inside : (map : SectorMap) (chip : Chip) (part : Part) (o n : ℕ) → IsLaidOut map chip
    → o + n ≤ length_of map part → 0 < n → start_of map part + o + n ≤ size_of chip
range_inside map chip part o n laid le some = ⊎_elim
    (λ (has : 0 < count_of map part). omega (arith, part_inside map chip part laid has))
    (λ (none : count_of map part ≤ 0). let empty : count_of map part * map.sector_size ≡ 0 * map.sector_size =
    ap (λ k. k * map.sector_size) (omega arith) in absurd (omega arith))
    (cases_lt 0 (count_of map part))

-- A part has the bytes of its sectors.
pub length_part : (map : SectorMap) (chip : Chip) (part : Part) → IsLaidOut map chip
    → length (part_of map chip part) ≡ length_of map part
unfolding part_of
length_part map chip part laid = length_range chip.bytes (start_of map part) _ ∙ ⊎_elim
    (λ (has : 0 < count_of map part). omega (arith, end_of map part, part_inside map chip part laid has, laid.whole))
    (λ (none : count_of map part ≤ 0). let empty : count_of map part * map.sector_size ≡ 0 * map.sector_size =
    ap (λ k. k * map.sector_size) (omega arith) in omega (arith, end_of map part))
    (cases_lt 0 (count_of map part))

-- The byte at an offset of a part is the flash's byte at the part's start plus this offset.
pub part_at : (map : SectorMap) (chip : Chip) (part : Part) (o : ℕ) → o < length_of map part
    → slice_index (part_of map chip part) o ≡ slice_index chip.bytes (start_of map part + o)
unfolding part_of
part_at map chip part o lt = range_at chip.bytes (start_of map part) _ o (omega (arith, end_of map part))

-- A range of a part is a range of the flash.
pub range_of_part : (map : SectorMap) (chip : Chip) (part : Part) (a b : ℕ) → IsLaidOut map chip
    → b ≤ length_of map part
    → slice_range (part_of map chip part) a b ≡ slice_range chip.bytes (start_of map part + a) (start_of map part + b)
range_of_part map chip part a b laid le = ⊎_elim
    (λ (some : a < b). same some)
    (λ (none : b ≤ a).
    ext_get_or 0 (slice_range (part_of map chip part) a b)
    (slice_range chip.bytes (start_of map part + a) (start_of map part + b))
    (length_range (part_of map chip part) a b ∙ omega arith
    ∙ sym (length_range chip.bytes (start_of map part + a) (start_of map part + b)))
    (λ i lt. absurd (omega (arith, length_range (part_of map chip part) a b))))
    (cases_lt a b)
  where
    same : a < b → slice_range (part_of map chip part) a b ≡ slice_range chip.bytes (start_of map part + a)
        (start_of map part + b)
    same some =
        let long = length_part map chip part laid in
        let fits = range_inside map chip part a (b - a) laid (omega arith) (omega arith) in
        let left : length (slice_range (part_of map chip part) a b) ≡ b - a =
        length_range (part_of map chip part) a b ∙ omega (arith, long) in
        let right : length (slice_range chip.bytes (start_of map part + a) (start_of map part + b)) ≡ b - a =
        length_range chip.bytes (start_of map part + a) (start_of map part + b) ∙ omega (arith, fits, laid.whole) in
        ext_get_or 0 (slice_range (part_of map chip part) a b)
        (slice_range chip.bytes (start_of map part + a) (start_of map part + b)) (left ∙ sym right)
        (λ i lt.
        let below : i < b - a = omega (arith, left) in
        let there : start_of map part + (a + i) ≡ start_of map part + a + i = omega arith in
        range_at (part_of map chip part) a b i below
        ∙ part_at map chip part (a + i) (omega arith)
        ∙ ap (λ k. slice_index chip.bytes k) there
        ∙ sym (range_at chip.bytes (start_of map part + a) (start_of map part + b) i (omega arith)))

-- A write leaves the bytes of a part outside its range unchanged.
pub part_kept_at : (map : SectorMap) (part : Part) (at n o : ℕ) (old new : Chip) → SameOutside at n old new
    → o < length_of map part
    → (start_of map part + o < at) ⊎ (at + n ≤ start_of map part + o)
    → slice_index (part_of map new part) o ≡ slice_index (part_of map old part) o
part_kept_at map part at n o old new same lt outside =
    part_at map new part o lt
    ∙ ⊎_elim (λ (below : start_of map part + o < at). same.before _ below)
    (λ (behind : at + n ≤ start_of map part + o). same.after _ behind) outside
    ∙ sym (part_at map old part o lt)

-- Bytes that are read from the flash are those of the part.
pub part_reads : (map : SectorMap) (chip : Chip) (part : Part) (o at i : ℕ) (bytes : List ℕ)
    → Reads chip at bytes → at ≡ start_of map part + o
    → o + length bytes ≤ length_of map part → i < length bytes
    → slice_index (part_of map chip part) (o + i) ≡ slice_index bytes i
part_reads map chip part o at i bytes reads is le lt = part_at map chip part (o + i) (omega arith)
    ∙ reads.each (start_of map part + (o + i)) i (omega arith) lt

-- A byte in an erased range of the flash is erased in the part.
pub part_erased_at : (map : SectorMap) (chip : Chip) (part : Part) (at n o : ℕ) → IsErased chip at n
    → o < length_of map part
    → at ≤ start_of map part + o → start_of map part + o < at + n → slice_index (part_of map chip part) o ≡ 0xff
part_erased_at map chip part at n o erased lt low high = part_at map chip part o lt
    ∙ erased.each (start_of map part + o) low high

-- A write into a part leaves all other parts unchanged.
pub keeps_write : (map : SectorMap) (part : Part) (o at n : ℕ) (old new : Chip) → IsLaidOut map old
    → SameOutside at n old new
    → at ≡ start_of map part + o → o + n ≤ length_of map part → Keeps map (only part) old new
keeps_write map part o at n old new laid same is le =
    keeps_others map part at n old new laid same (omega arith) (omega (arith, end_of map part))

-- An erase of one of a part's sectors leaves all other parts unchanged.
pub keeps_erase : (map : SectorMap) (part : Part) (sector : ℕ) (old new : Chip) → IsLaidOut map old
    → SameOutside (sector * old.sector_size) old.sector_size old new → IsIn map part sector
    → Keeps map (only part) old new
keeps_erase map part sector old new laid same at =
    let size_is : sector * old.sector_size ≡ sector * map.sector_size = ap (λ e. sector * e) laid.sector_size in
    let low : first_of map part * map.sector_size ≤ sector * map.sector_size =
    mul_le (first_of map part) sector map.sector_size at.low in
    let high : sector * map.sector_size + map.sector_size ≤ (first_of map part + count_of map part) * map.sector_size =
    product_le sector (first_of map part + count_of map part) map.sector_size at.high in
    keeps_others map part (sector * old.sector_size) old.sector_size old new laid same (omega arith)
    (omega (arith, laid.sector_size))
