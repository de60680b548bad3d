-- Lemmas about the places of trailers and slots, and about the bytes of a part by offset.
use Rattle.std.proofs.Common.{◌≡◌, ◌⊎◌, ℕ, ◌+◌, ◌-◌, ◌*◌, ◌/◌, ◌%◌, ◌^◌, ◌<◌, ◌≤◌, arith, sym, ◌∙◌, ap, List, length, slice_range, min, inl, inr, ⊎_elim}
use Rattle.flash_model.specs.Chip.{Chip, Reads, SameOutside, size_of}
use Rattle.flash_model.proofs.Frame.{product_le}
use Rattle.flash_model.proofs.Units.{aligned}
use Rattle.flash_model.proofs.Ranges.{length_range, range_same, range_of_reads}
use Rattle.sector_map.specs.declared.layout.SectorMap.{SectorMap}
use Rattle.sector_map.specs.declared.layout.Side.{Side}
use Rattle.sector_map.specs.Part.{Part, Slot, TrailerOf, only}
use Rattle.sector_map.specs.Map.{first_of, count_of, start_of, length_of, sectors_of, IsMap, IsLaidOut, Keeps, part_of}
use Rattle.sector_map.proofs.Places.{first_within}
use Rattle.sector_map.proofs.Products.{mul_le}
use Rattle.sector_map.proofs.PartBytes.{part_inside, part_kept_at, range_of_part, keeps_write, keeps_erase}
use Rattle.trailer.specs.Fields.{bytes_at, place_of, trailer_bytes}

pub some_slot : (map : SectorMap) (image : ℕ) (side : Side) → IsMap map → image < map.images
    → 0 < count_of map (Slot image side)
some_slot map image side fits lt = fits.counts.some image lt

pub some_trailer : (map : SectorMap) (image : ℕ) (side : Side) → IsMap map → image < map.images
    → 0 < count_of map (TrailerOf image side)
some_trailer map image side fits lt = omega (arith, fits.counts.some image lt)

-- A trailer is one sector.
pub trailer_size : (map : SectorMap) (image : ℕ) (side : Side) → IsMap map → image < map.images
    → length_of map (TrailerOf image side) ≡ map.sector_size
trailer_size map image side fits lt =
    let one : count_of map (TrailerOf image side) ≡ 1 = omega (arith, fits.counts.some image lt) in
    ap (λ n. n * map.sector_size) one ∙ omega arith

-- A part that isn't empty has a sector at least.
pub sector_of_part : (map : SectorMap) (part : Part) → 0 < count_of map part → map.sector_size ≤ length_of map part
sector_of_part map part some = omega (arith, mul_le 1 (count_of map part) map.sector_size some)

-- The first sector of a part has addresses of 32 bits.
pub part_addressed : (map : SectorMap) (part : Part) → IsMap map → 0 < count_of map part
    → start_of map part + map.sector_size < 2 ^ 32
part_addressed map part fits some = omega (
  arith,
  product_le (first_of map part) (sectors_of map) map.sector_size
      (first_within map part fits some),
  fits.addressed,
)

-- A write leaves the bytes of a part outside its range unchanged.
pub range_besides : (map : SectorMap) (old new : Chip) (part : Part) (at n a b : ℕ) → SameOutside at n old new
    → b ≤ length_of map part
    → (start_of map part + b ≤ at) ⊎ (at + n ≤ start_of map part + a) → slice_range (part_of map new part) a b ≡
    slice_range (part_of map old part) a b
unfolding part_of
range_besides map old new part at n a b same le apart =
    range_same a b (part_of map old part) (part_of map new part)
    (length_range new.bytes _ _ ∙ ap (λ m. min ((first_of map part + count_of map part) * map.sector_size - start_of
    map part) (m - start_of map part)) same.size ∙ sym (length_range old.bytes _ _))
    (λ k low high. part_kept_at map part at n k old new same (omega arith)
    (⊎_elim (λ (l : start_of map part + b ≤ at). inl (omega arith))
    (λ (r : at + n ≤ start_of map part + a). inr (omega arith)) apart))

-- The first sector of a part lies in the flash.
pub part_within : (map : SectorMap) (chip : Chip) (part : Part) → IsLaidOut map chip → 0 < count_of map part
    → first_of map part < chip.sectors
part_within map chip part laid some = omega (arith, first_within map part laid.is_map some, laid.sectors)

part_fits : (map : SectorMap) (chip : Chip) (part : Part) → IsLaidOut map chip → 0 < count_of map part
    → start_of map part + map.sector_size ≤ size_of chip
part_fits map chip part laid some =
    omega (arith, part_inside map chip part laid some, sector_of_part map part some)

-- An erase of the first sector of a part leaves all other parts unchanged.
pub part_alone : (map : SectorMap) (old new : Chip) (part : Part) (sector : ℕ)
    → SameOutside (sector * old.sector_size) old.sector_size old new → IsLaidOut map old → 0 < count_of map part
    → sector ≡ first_of map part → Keeps map (only part) old new
part_alone map old new part sector same laid some is =
    keeps_erase map part sector old new laid same (record { low = omega arith; high = omega arith })

-- Trailers, and the first sectors of slots, lie in the flash.
pub trailer_fits : (map : SectorMap) (chip : Chip) (image : ℕ) (side : Side) → IsLaidOut map chip → image < map.images
    → start_of map (TrailerOf image side) + map.sector_size ≤ size_of chip
trailer_fits map chip image side laid lt =
    part_fits map chip (TrailerOf image side) laid (some_trailer map image side laid.is_map lt)

pub slot_fits : (map : SectorMap) (chip : Chip) (image : ℕ) (side : Side) → IsLaidOut map chip → image < map.images
    → start_of map (Slot image side) + map.sector_size ≤ size_of chip
slot_fits map chip image side laid lt =
    part_fits map chip (Slot image side) laid (some_slot map image side laid.is_map lt)

pub trailer_addressed : (map : SectorMap) (image : ℕ) (side : Side) → IsMap map → image < map.images
    → start_of map (TrailerOf image side) + map.sector_size < 2 ^ 32
trailer_addressed map image side fits lt = part_addressed map (TrailerOf image side) fits
    (some_trailer map image side fits lt)

-- A place in a trailer lies in the flash, at a whole unit.
pub place_fits : (map : SectorMap) (chip : Chip) (image from_end : ℕ) (side : Side) → IsLaidOut map chip
    → image < map.images → from_end ≤ 56
    → place_of map image side from_end + from_end ≤ size_of chip
place_fits map chip image from_end side laid lt le = omega (
  arith,
  trailer_fits map chip image side laid lt,
  laid.is_map.trailers image,
)

pub place_aligned : (map : SectorMap) (image from_end : ℕ) (side : Side) → IsMap map → from_end ≤ map.sector_size
    → from_end % 8 ≡ 0 → place_of map image side from_end % 8 ≡ 0
place_aligned map image from_end side fits le unit =
    let units : 8 * (map.sector_size / 8) ≡ map.sector_size = omega (arith, fits.sector.blocks) in
    omega (arith, aligned (first_of map (TrailerOf image side)) map.sector_size units, units)

-- The bytes that are read in a trailer's sector, from an offset on.
pub range_of_trailer : (map : SectorMap) (chip : Chip) (image at offset n : ℕ) (side : Side) (bytes : List ℕ)
    → Reads chip at bytes → at ≡ start_of map (TrailerOf image side) + offset
    → n ≡ length bytes → offset + n ≤ map.sector_size → IsLaidOut map chip → image < map.images
    → slice_range (trailer_bytes map chip image side) offset (offset + n) ≡ bytes
range_of_trailer map chip image at offset n side bytes reads is long within laid lt =
    let start = start_of map (TrailerOf image side) in
    range_of_part map chip (TrailerOf image side) offset (offset + n) laid
    (omega (arith, within, trailer_size map image side laid.is_map lt))
    ∙ ap (λ k. slice_range chip.bytes (start + offset) k)
    (let e : start + (offset + n) ≡ start + offset + length bytes = omega arith in e)
    ∙ ap (λ k. slice_range chip.bytes k (k + length bytes)) (sym is)
    ∙ range_of_reads chip at bytes reads (omega (arith, trailer_fits map chip image side laid lt, laid.whole))

-- The bytes that are read at a place of a trailer.
pub read_of_trailer : (map : SectorMap) (chip : Chip) (image at from_end n : ℕ) (side : Side) (bytes : List ℕ)
    → Reads chip at bytes → at ≡ place_of map image side from_end
    → n ≡ length bytes → n ≤ from_end → from_end ≤ map.sector_size → IsLaidOut map chip → image < map.images → bytes_at
    map chip image side from_end n ≡ bytes
read_of_trailer map chip image at from_end n side bytes reads is long within_end le laid lt =
    range_of_trailer map chip image at (map.sector_size - from_end) n side bytes reads is long (omega arith) laid lt

-- A write of units of a trailer leaves all other parts unchanged.
pub units_alone : (map : SectorMap) (old new : Chip) (image at from_end n : ℕ) (side : Side) → SameOutside at n old new
    → IsLaidOut map old → image < map.images
    → at ≡ place_of map image side from_end → n ≤ from_end → from_end ≤ 56 → Keeps map (only (TrailerOf image side))
    old new
units_alone map old new image at from_end n side same laid lt is room le =
    keeps_write map (TrailerOf image side) (map.sector_size - from_end) at n old new laid same is
    (omega (arith, trailer_size map image side laid.is_map lt, laid.is_map.trailers image))
