-- What a call that writes units of a trailer does.
use Rattle.std.specs.Prelude.{◌≡◌, ℕ, ◌+◌, ◌*◌, ◌%◌, ◌<◌, ◌≤◌, List, length, Some, true, false}
use Rattle.std.specs.Prelude.{Result, IsErrOf, OnOk}
use Rattle.flash_model.specs.declared.error.FlashError.{FlashError}
use Rattle.flash_model.specs.declared.error.FlashError.TheVariants.{Off}
use Rattle.flash_model.specs.Chip.{Chip, Ends, Reads, SameOutside}
use Rattle.sector_map.specs.declared.layout.SectorMap.{SectorMap}
use Rattle.sector_map.specs.declared.layout.Side.{Side}
use Rattle.sector_map.specs.Map.{IsLaidOut, Keeps, slot_sectors, start_of}
use Rattle.sector_map.specs.Part.{TrailerOf, only}
use Rattle.trailer.specs.Places.{image_ok_place, magic_place, swap_size_place, withdrawn_place}
use Rattle.trailer.specs.declared.kinds.Magic.TheVariants.{Good}
use Rattle.trailer.specs.Fields.{Fields, bytes_at, fields_at, flag, good_magic, place_of, size_bytes}
use Rattle.trailer.specs.Status.{status_count_of}

-- The map is laid out on the flash and has the image. Its trailers have whole units, n bytes
-- together, that begin this many bytes before their end, at or after the withdrawn unit.
pub record HasUnits (map : SectorMap) (image from_end n : ℕ) (chip : Chip) : Type 0 where
  pub laid_out : IsLaidOut map chip
  pub there : image < map.images
  pub some : 8 ≤ n
  pub whole : n % 8 ≡ 0
  pub place : from_end % 8 ≡ 0
  pub room : n ≤ from_end
  pub within : from_end ≤ withdrawn_place

-- A call writes units that begin this many bytes before the end of a trailer.
pub record WritesUnits (map : SectorMap) (image : ℕ) (side : Side) (from_end : ℕ)
    (units : List ℕ) (old new : Chip) {T : Type 0} (result : Result T FlashError)
    : Type 0 where
  -- No other byte changes.
  pub outside : SameOutside (place_of map image side from_end) (length units) old new
  -- On success the trailer holds the units.
  pub ok : OnOk result (bytes_at map new image side from_end (length units) ≡ units)
  pub erases : OnOk result (new.erases ≡ old.erases)
  -- If the flash is off, the call returns `Off`.
  pub off : old.is_on ≡ false → IsErrOf result Off
  -- It asks a journal for at most 12 bytes and its own.
  pub journal : new.journaled ≤ old.journaled + (12 + length units)
  pub ends : Ends result old new

-- A call writes one field of a trailer, in units that begin this many bytes before its end.
-- `is_said` says what the field has to say afterwards. `joined` takes this field from the new
-- fields, and the others from the old ones.
pub record WritesField (map : SectorMap) (image : ℕ) (side : Side) (from_end : ℕ)
    (units : List ℕ) (is_said : Fields → Type 0) (joined : Fields → Fields → Fields)
    (old new : Chip) {T : Type 0} (result : Result T FlashError) : Type 0 where
  -- No other part changes.
  pub outside : Keeps map (only (TrailerOf image side)) old new
  -- No byte outside the unit changes.
  pub unit : SameOutside (place_of map image side from_end) (length units) old new
  -- No other field changes.
  pub own : fields_at map new image side
      ≡ joined (fields_at map old image side) (fields_at map new image side)
  -- On success the field says what it has to say, and the trailer holds the units.
  pub ok : OnOk result (is_said (fields_at map new image side))
  pub bytes : OnOk result (bytes_at map new image side from_end (length units) ≡ units)
  pub erases : OnOk result (new.erases ≡ old.erases)
  -- If the flash is off, the call returns `Off`.
  pub off : old.is_on ≡ false → IsErrOf result Off
  -- It asks a journal for at most 12 bytes and its own.
  pub journal : new.journaled ≤ old.journaled + (12 + length units)
  pub ends : Ends result old new

-- A call sets `image_ok`.
abbrev pub SetsImageOk : SectorMap → ℕ → Side → Chip → Chip → {T : Type 0} → Result T FlashError
    → Type 0
SetsImageOk map image side old new result =
    WritesField map image side image_ok_place flag (λ fields. fields.image_ok ≡ true)
    (λ was now. record was { image_ok = now.image_ok }) old new result

-- A call sets the withdrawn unit.
abbrev pub SetsWithdrawn : SectorMap → ℕ → Side → Chip → Chip → {T : Type 0} → Result T FlashError
    → Type 0
SetsWithdrawn map image side old new result =
    WritesField map image side withdrawn_place flag (λ fields. fields.withdrawn ≡ true)
    (λ was now. record was { withdrawn = now.withdrawn }) old new result

-- A call writes the magic.
abbrev pub WritesMagic : SectorMap → ℕ → Side → Chip → Chip → {T : Type 0} → Result T FlashError
    → Type 0
WritesMagic map image side old new result =
    WritesField map image side magic_place good_magic (λ fields. fields.magic ≡ Good)
    (λ was now. record was { magic = now.magic }) old new result

-- A call writes the unit of `swap_size`.
pub record WritesSize (map : SectorMap) (image : ℕ) (side : Side) (swap_size : ℕ)
    (old new : Chip) {T : Type 0} (result : Result T FlashError) : Type 0 where
  -- No other part changes.
  pub outside : Keeps map (only (TrailerOf image side)) old new
  -- No byte outside the unit changes.
  pub unit : SameOutside (place_of map image side swap_size_place) 8 old new
  -- No other field changes.
  pub own : fields_at map new image side
      ≡ record (fields_at map old image side) { size = (fields_at map new image side).size }
  -- On success the trailer holds the unit.
  pub bytes : OnOk result (bytes_at map new image side swap_size_place 8 ≡ size_bytes swap_size)
  -- On success the unit is read as this size, if the number is from 1 to the slot's length.
  pub ok : OnOk result (0 < swap_size → swap_size ≤ slot_sectors map image * map.sector_size
      → (fields_at map new image side).size ≡ Some swap_size)
  pub erases : OnOk result (new.erases ≡ old.erases)
  -- If the flash is off, the call returns `Off`.
  pub off : old.is_on ≡ false → IsErrOf result Off
  -- It asks a journal for at most 20 bytes.
  pub journal : new.journaled ≤ old.journaled + 20
  pub ends : Ends result old new

-- A call sets the first erased status unit.
pub record PushesStatus (map : SectorMap) (image : ℕ) (side : Side) (old new : Chip)
    {T : Type 0} (result : Result T FlashError) : Type 0 where
  -- No other part changes.
  pub outside : Keeps map (only (TrailerOf image side)) old new
  -- No byte outside the unit changes.
  pub unit : SameOutside (start_of map (TrailerOf image side)
      + 8 * status_count_of map old image side) 8 old new
  -- No other field changes.
  pub own : fields_at map new image side
      ≡ record (fields_at map old image side)
      { is_fresh = (fields_at map new image side).is_fresh }
  -- On success the count is greater, and the unit holds the flag.
  pub ok : OnOk result (status_count_of map old image side < status_count_of map new image side)
  pub flag : OnOk result (Reads new (start_of map (TrailerOf image side)
      + 8 * status_count_of map old image side) flag)
  pub erases : OnOk result (new.erases ≡ old.erases)
  -- If the flash is off, the call returns `Off`.
  pub off : old.is_on ≡ false → IsErrOf result Off
  -- It asks a journal for at most 20 bytes.
  pub journal : new.journaled ≤ old.journaled + 20
  pub ends : Ends result old new
