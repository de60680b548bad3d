-- Where the parts of a map are on a flash, and what they contain.
use Rattle.std.specs.Prelude.{◌≡◌, ℕ, ◌+◌, ◌-◌, ◌*◌, ◌/◌, ◌<◌, ◌≤◌, ◌^◌, Bool, true, false, min, List}
use Rattle.std.specs.Prelude.{length, slice_index, slice_range}
use Rattle.flash_model.specs.Chip.{Chip, size_of}
use Rattle.sector_map.specs.declared.layout.Side.{Side}
use Rattle.sector_map.specs.declared.layout.Side.TheVariants.{Primary, Secondary}
use Rattle.sector_map.specs.declared.layout.SectorMap.{SectorMap}
use Rattle.sector_map.specs.Part.{Part, Slot, TrailerOf, Scratch, Log}
use Rattle.common.specs.Masks.{is_member}
use Rattle.sector_map.specs.Sizes.{MakeMap, before, all_sectors}

-- The sizes of the map make a map.
abbrev pub IsMap : SectorMap → Type 0
IsMap map = MakeMap map.sector_size map.images map.sectors

-- How many sectors each slot of an image has: none if the map lacks the image.
abbrev pub slot_sectors : SectorMap → ℕ → ℕ
slot_sectors map i = slice_index map.sectors i

-- How many sectors the map has.
abbrev pub sectors_of : SectorMap → ℕ
sectors_of map = all_sectors map.images map.sectors

-- The first sector of a side: the secondary slots come after the primary ones.
abbrev pub side_start : SectorMap → Side → ℕ
side_start map Primary = 0
side_start map Secondary = before map.sectors map.images

-- The number of a part's first sector; a trailer comes right after its slot.
abbrev pub first_of : SectorMap → Part → ℕ
first_of map (Slot i side) = side_start map side + before map.sectors i
first_of map (TrailerOf i side) = side_start map side + before map.sectors i + slot_sectors map i
first_of map Scratch = 2 * before map.sectors map.images
first_of map Log = 2 * before map.sectors map.images + 1

-- How many sectors a part has: none if the map lacks the image.
abbrev pub count_of : SectorMap → Part → ℕ
count_of map (Slot i side) = slot_sectors map i
count_of map (TrailerOf i side) = min 1 (slot_sectors map i)
count_of map Scratch = 1
count_of map Log = 3

-- The address of a part's first byte.
abbrev pub start_of : SectorMap → Part → ℕ
start_of map part = first_of map part * map.sector_size

-- How many bytes a part has.
abbrev pub length_of : SectorMap → Part → ℕ
length_of map part = count_of map part * map.sector_size

-- How many records fit in a sector of the log, 64 bytes each; its last 64 are for its closing unit.
abbrev pub places_of : SectorMap → ℕ
places_of map = map.sector_size / 64 - 1

-- The address of a place for a record in one of the log's three sectors.
abbrev pub place_of_record : SectorMap → ℕ → ℕ → ℕ
place_of_record map sector place = (first_of map Log + sector) * map.sector_size + 64 * place

-- The address of the closing unit of one of the log's sectors: its last 8 bytes.
abbrev pub closing_unit : SectorMap → ℕ → ℕ
closing_unit map sector = (first_of map Log + sector) * map.sector_size + (map.sector_size - 8)

-- A sector is in a part.
pub record IsIn (map : SectorMap) (part : Part) (sector : ℕ) : Type 0 where
  pub low : first_of map part ≤ sector
  pub high : sector < first_of map part + count_of map part

-- The images of a mask are the map's.
abbrev pub IsWithin : SectorMap → ℕ → Type 0
IsWithin map mask = (i : ℕ) → is_member mask i ≡ true → i < map.images

-- The map fits a flash: same sector size, enough sectors; the rest is true of each map and flash.
pub record IsLaidOut (map : SectorMap) (chip : Chip) : Type 0 where
  pub sector_size : chip.sector_size ≡ map.sector_size
  pub sectors : sectors_of map ≤ chip.sectors
  pub is_map : IsMap map
  pub whole : length chip.bytes ≡ size_of chip
  pub size : size_of chip < 2 ^ 32

-- The map is laid out on a flash, and has the image.
pub record HasImage (map : SectorMap) (image : ℕ) (chip : Chip) : Type 0 where
  pub laid_out : IsLaidOut map chip
  pub there : image < map.images

-- The map is laid out on a flash, and has each image of the mask.
pub record HasImages (map : SectorMap) (mask : ℕ) (chip : Chip) : Type 0 where
  pub laid_out : IsLaidOut map chip
  pub within : IsWithin map mask

-- The bytes of a part.
unfoldable pub part_of : SectorMap → Chip → Part → List ℕ
part_of map chip part =
    slice_range chip.bytes (start_of map part)
    ((first_of map part + count_of map part) * map.sector_size)

-- The address after the map's last sector; a flash that fits may have more.
abbrev pub end_of_map : SectorMap → ℕ
end_of_map map = sectors_of map * map.sector_size

-- Untouched parts, all bytes after the map, the sectors and what is fixed are unchanged.
pub record Keeps (map : SectorMap) (touched : Part → Bool) (old new : Chip) : Type 0 where
  pub sector_size : new.sector_size ≡ old.sector_size
  pub sectors : new.sectors ≡ old.sectors
  pub fixed : new.fixed ≡ old.fixed
  pub size : length new.bytes ≡ length old.bytes
  pub parts : (part : Part) → touched part ≡ false → part_of map new part ≡ part_of map old part
  pub behind : (k : ℕ) → end_of_map map ≤ k → slice_index new.bytes k ≡ slice_index old.bytes k
