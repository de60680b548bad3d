-- Contracts of the calls that write or erase a secondary slot: one record for each call.
use Rattle.std.specs.Prelude.{◌≡◌, ℕ, ◌+◌, ◌*◌, ◌≤◌, ◌<◌, true, List, [], ◌++◌, length, Result}
use Rattle.std.specs.Prelude.{OnOk}
use Rattle.flash_model.specs.declared.error.FlashError.{FlashError}
use Rattle.flash_model.specs.Chip.{Chip, Ends, IsErased, SameOutside}
use Rattle.sector_map.specs.declared.layout.SectorMap.{SectorMap}
use Rattle.sector_map.specs.declared.layout.Side.TheVariants.{Secondary}
use Rattle.sector_map.specs.Part.{Slot, only}
use Rattle.sector_map.specs.Map.{IsLaidOut, Keeps, first_of, length_of, slot_sectors, start_of}
use Rattle.trailer.specs.Standing.{incoming_slot}
use Rattle.upload.specs.Sessions.{IsWritten}
use Rattle.upload.specs.Wear.{one_unless_erased, sector_in, worn_slot}

-- In a secondary slot, `n` bytes from the place `at` on, which is the start of a unit, lie in the
-- slot and are erased.
pub record HasRoomBehind (map : SectorMap) (image at n : ℕ) (chip : Chip) : Type 0 where
  pub laid_out : IsLaidOut map chip
  pub there : image < map.images
  pub place : (k : ℕ) × (at ≡ 8 * k)
  pub room : at + n ≤ length_of map (Slot image Secondary)
  pub erased : IsErased chip (start_of map (Slot image Secondary) + at) n

-- A call appends bytes to the written bytes of a secondary slot. Their units take `width` bytes.
pub record Appends (map : SectorMap) (image at : ℕ) (bytes : List ℕ) (width : ℕ) (old new : Chip)
    {T : Type 0} (result : Result T FlashError) : Type 0 where
  -- Only the image's secondary slot is written.
  pub outside : Keeps map (only (Slot image Secondary)) old new
  -- In the slot, only these units are written.
  pub range : SameOutside (start_of map (Slot image Secondary) + at) width old new
  -- If there are no bytes, nothing is written.
  pub none : bytes ≡ [] → new ≡ old
  -- If the call succeeds, the bytes follow those that were written before.
  pub ok : OnOk result ((front : List ℕ) → length front ≡ at
      → IsWritten (incoming_slot map old image) front
      → IsWritten (incoming_slot map new image) (front ++ bytes))
  -- If the call succeeds and there are bytes, the flash was on.
  pub on : OnOk result (0 < length bytes → old.is_on ≡ true)
  -- No sector is erased, even if the call fails.
  pub erases : new.erases ≡ old.erases
  -- It asks a journal for at most 12 bytes and those of the units.
  pub journal : new.journaled ≤ old.journaled + (12 + width)
  pub ends : Ends result old new

-- A call erases a sector of a secondary slot, given by its index.
pub record ErasesSector (map : SectorMap) (image index : ℕ) (old new : Chip) {T : Type 0}
    (result : Result T FlashError) : Type 0 where
  -- Only the image's secondary slot is written.
  pub outside : Keeps map (only (Slot image Secondary)) old new
  -- No other sector of the slot is written.
  pub sector : SameOutside ((first_of map (Slot image Secondary) + index) * map.sector_size)
      map.sector_size old new
  -- If the call succeeds, the sector is erased.
  pub ok : OnOk result (IsErased new
      ((first_of map (Slot image Secondary) + index) * map.sector_size) map.sector_size)
  -- If the sector was erased, nothing changes.
  pub idle : IsErased old ((first_of map (Slot image Secondary) + index) * map.sector_size)
      map.sector_size → new ≡ old
  -- If the call succeeds, at most one sector is erased.
  pub erases : OnOk result (new.erases ≤ old.erases + 1)
  -- If the call succeeds, one sector is erased exactly if this one wasn't erased before.
  pub worn : OnOk result (new.erases ≡ old.erases
      + one_unless_erased (sector_in map.sector_size (incoming_slot map old image) index))
  -- It asks a journal for at most 12 bytes.
  pub journal : new.journaled ≤ old.journaled + 12
  pub ends : Ends result old new

-- A call erases a secondary slot.
pub record ErasesSlot (map : SectorMap) (image : ℕ) (old new : Chip) {T : Type 0}
    (result : Result T FlashError) : Type 0 where
  -- Only the image's secondary slot is written.
  pub outside : Keeps map (only (Slot image Secondary)) old new
  -- If the call succeeds, the complete slot is erased.
  pub ok : OnOk result (IsWritten (incoming_slot map new image) [])
  -- If the slot was erased, nothing changes.
  pub idle : IsErased old (start_of map (Slot image Secondary))
      (length_of map (Slot image Secondary)) → new ≡ old
  -- If the call succeeds, at most as many sectors are erased as the slot has.
  pub erases : OnOk result (new.erases ≤ old.erases + slot_sectors map image)
  -- If the call succeeds, as many sectors are erased as weren't erased before.
  pub worn : OnOk result (new.erases ≡ old.erases + worn_slot map old image)
  -- It asks a journal for at most 12 bytes for each sector of the slot.
  pub journal : new.journaled ≤ old.journaled + 12 * slot_sectors map image
  -- If the first sector was erased, it asks for 12 bytes less.
  pub journal_first : IsErased old (start_of map (Slot image Secondary)) map.sector_size
      → new.journaled + 12 ≤ old.journaled + 12 * slot_sectors map image
  pub ends : Ends result old new
