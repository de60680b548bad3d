-- What a trailer says, by the bytes of its sector. The fields except withdrawn, and the bytes of
-- the magic, are MCUboot's (its design document, "Image Trailer"); their places are bootswap's own.
use Rattle.std.specs.Prelude.{ℕ, ◌+◌, ◌-◌, ◌*◌, ◌&&◌, Bool, true, false, not, nat_lt, nat_le}
use Rattle.std.specs.Prelude.{List, [], ◌∷◌, ◌++◌, drop, slice_range, Option, Some, None, if◌then◌else◌}
use Rattle.std.specs.Str.{bytes_eq}
use Rattle.byteorder.specs.Endian.{little_bytes, little_number}
use Rattle.flash_model.specs.Chip.{Chip}
use Rattle.flash_model.specs.Units.{are_erased}
use Rattle.sector_map.specs.declared.layout.SectorMap.{SectorMap}
use Rattle.sector_map.specs.declared.layout.Side.{Side}
use Rattle.sector_map.specs.Part.{TrailerOf}
use Rattle.sector_map.specs.Map.{part_of, slot_sectors, start_of}
use Rattle.trailer.specs.Places.{copy_done_place, image_ok_place, magic_place}
use Rattle.trailer.specs.Places.{swap_size_place, withdrawn_place}
use Rattle.trailer.specs.declared.kinds.Magic.{Magic}
use Rattle.trailer.specs.declared.kinds.Magic.TheVariants.{Good, Unset, Bad}
use Rattle.trailer.specs.declared.kinds.Trailer.{Trailer}

-- Whether a unit is set: it isn't erased.
abbrev pub is_set : List ℕ → Bool
is_set unit = not (are_erased unit)

-- The magic of a trailer (`BOOT_MAGIC`).
abbrev pub good_magic : List ℕ
good_magic = 0x77 ∷ 0xc2 ∷ 0x95 ∷ 0xf3 ∷ 0x60 ∷ 0xd2 ∷ 0xef ∷ 0x7f
    ∷ 0x35 ∷ 0x52 ∷ 0x50 ∷ 0x0f ∷ 0x2c ∷ 0xb6 ∷ 0x79 ∷ 0x80 ∷ []

-- A unit that is set as a flag.
abbrev pub flag : List ℕ
flag = 0x01 ∷ 0xff ∷ 0xff ∷ 0xff ∷ 0xff ∷ 0xff ∷ 0xff ∷ 0xff ∷ []

-- What the 16 bytes of a magic say.
abbrev pub magic_in : List ℕ → Magic
magic_in bytes = if bytes_eq bytes good_magic then Good else if are_erased bytes then Unset else Bad

-- The size in a unit, if it is a number from 1 to a limit and four zero bytes.
abbrev pub size_in : ℕ → List ℕ → Option ℕ
size_in limit unit =
    if nat_lt 0 (little_number 4 unit) && (nat_le (little_number 4 unit) limit
    && bytes_eq (drop 4 unit) (0 ∷ 0 ∷ 0 ∷ 0 ∷ []))
    then Some (little_number 4 unit) else None

-- The unit of a size: the number, the least byte first, and four zero bytes.
abbrev pub size_bytes : ℕ → List ℕ
size_bytes size = little_bytes 4 size ++ (0 ∷ 0 ∷ 0 ∷ 0 ∷ [])

-- The fields of a trailer.
pub record Fields : Type 0 where
  pub magic : Magic
  -- The swap of the image is done.
  pub copy_done : Bool
  -- The image is confirmed, or requested permanently.
  pub image_ok : Bool
  pub withdrawn : Bool
  -- `swap_size`: how many bytes of each slot a swap moves.
  pub size : Option ℕ
  -- No status unit is set.
  pub is_fresh : Bool

-- The n bytes that begin `from_end` bytes before the end of a sector of e bytes.
abbrev pub bytes_in : ℕ → List ℕ → ℕ → ℕ → List ℕ
bytes_in e bytes from_end n = slice_range bytes (e - from_end) (e - from_end + n)

-- The fields in a trailer of e bytes, of an image of n sectors.
unfoldable pub fields_in : ℕ → ℕ → List ℕ → Fields
fields_in n e bytes = record {
  magic = magic_in (bytes_in e bytes magic_place 16);
  copy_done = is_set (bytes_in e bytes copy_done_place 8);
  image_ok = is_set (bytes_in e bytes image_ok_place 8);
  withdrawn = is_set (bytes_in e bytes withdrawn_place 8);
  size = size_in (n * e) (bytes_in e bytes swap_size_place 8);
  is_fresh = are_erased (slice_range bytes 0 (24 * n));
}

-- The bytes of the trailer of an image's side.
abbrev pub trailer_bytes : SectorMap → Chip → ℕ → Side → List ℕ
trailer_bytes map chip image side = part_of map chip (TrailerOf image side)

-- The n bytes of a trailer that begin `from_end` bytes before its end.
abbrev pub bytes_at : SectorMap → Chip → ℕ → Side → ℕ → ℕ → List ℕ
bytes_at map chip image side from_end n =
    bytes_in map.sector_size (trailer_bytes map chip image side) from_end n

-- The address that is `from_end` bytes before the end of a trailer.
abbrev pub place_of : SectorMap → ℕ → Side → ℕ → ℕ
place_of map image side from_end =
    start_of map (TrailerOf image side) + (map.sector_size - from_end)

-- The fields of the trailer of an image's side.
unfoldable pub fields_at : SectorMap → Chip → ℕ → Side → Fields
fields_at map chip image side =
    fields_in (slot_sectors map image) map.sector_size (trailer_bytes map chip image side)

-- The fields of an erased trailer.
abbrev pub erased_fields : Fields
erased_fields = record {
  magic = Unset;
  copy_done = false;
  image_ok = false;
  withdrawn = false;
  size = None;
  is_fresh = true;
}

-- The fields that say what is requested, on trial and confirmed.
abbrev pub trailer_of : Fields → Trailer
trailer_of fields = record {
  magic = fields.magic;
  copy_done = fields.copy_done;
  image_ok = fields.image_ok;
  withdrawn = fields.withdrawn;
}
