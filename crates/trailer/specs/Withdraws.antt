-- What a call that withdraws a request does.
use Rattle.std.specs.Prelude.{◌≡◌, ◌⊎◌, ℕ, ◌+◌, ◌≤◌, true, false, None, if◌then◌else◌}
use Rattle.std.specs.Prelude.{Result, IsErrOf, OnOk}
use Rattle.flash_model.specs.declared.error.FlashError.{FlashError}
use Rattle.flash_model.specs.declared.error.FlashError.TheVariants.{Off}
use Rattle.flash_model.specs.Chip.{Chip, Ends}
use Rattle.sector_map.specs.declared.layout.SectorMap.{SectorMap}
use Rattle.sector_map.specs.declared.layout.Side.{Side}
use Rattle.sector_map.specs.declared.layout.Side.TheVariants.{Secondary}
use Rattle.sector_map.specs.Map.{Keeps, part_of}
use Rattle.sector_map.specs.Part.{Slot, TrailerOf, incoming_of, only}
use Rattle.flash_model.specs.Units.{are_erased}
use Rattle.trailer.specs.Fields.{erased_fields, fields_at, trailer_bytes}
use Rattle.trailer.specs.Standing.{KeepsBehindFirst, first_is_set, first_sector, incoming_slot}
use Rattle.trailer.specs.Standing.{standing_of}

-- A call sets the withdrawn unit if a request is pending.
pub record TakesBack (map : SectorMap) (image : ℕ) (old new : Chip)
    {T : Type 0} (result : Result T FlashError) : Type 0 where
  -- No other part changes.
  pub outside : Keeps map (only (TrailerOf image Secondary)) old new
  -- In each case the fields are as they were, or no request is pending.
  pub either : (fields_at map new image Secondary ≡ fields_at map old image Secondary)
      ⊎ (standing_of map new image ≡ None)
  -- On success no request is pending.
  pub ok : OnOk result (standing_of map new image ≡ None)
  -- If no request was pending, nothing changes.
  pub idle : standing_of map old image ≡ None → new ≡ old
  -- On success the trailer is erased exactly if it was before. The call isn't an erase, and the
  -- trailer of a pending request isn't erased.
  pub erased : OnOk result (are_erased (trailer_bytes map new image Secondary)
      ≡ are_erased (trailer_bytes map old image Secondary))
  pub erases : OnOk result (new.erases ≡ old.erases)
  -- If the flash is off, the call returns `Off`.
  pub off : old.is_on ≡ false → IsErrOf result Off
  -- It asks a journal for at most 20 bytes.
  pub journal : new.journaled ≤ old.journaled + 20
  pub ends : Ends result old new

-- A call erases the first sector of a slot, unless its first unit is erased.
pub record ErasesFront (map : SectorMap) (image : ℕ) (side : Side) (old new : Chip)
    {T : Type 0} (result : Result T FlashError) : Type 0 where
  -- No other part changes.
  pub outside : Keeps map (only (Slot image side)) old new
  -- If the first unit is erased, nothing changes.
  pub idle : first_is_set (part_of map old (Slot image side)) ≡ false → new ≡ old
  -- No byte after the first sector changes.
  pub rest : KeepsBehindFirst map image side old new
  -- On success the first unit is erased.
  pub ok : OnOk result (first_is_set (part_of map new (Slot image side)) ≡ false)
  -- On success each byte of the first sector is erased if the first unit was set.
  pub first : OnOk result (first_is_set (part_of map old (Slot image side)) ≡ true
      → are_erased (first_sector map.sector_size (part_of map new (Slot image side))) ≡ true)
  pub erases : OnOk result (new.erases ≡ old.erases
      + (if first_is_set (part_of map old (Slot image side)) then 1 else 0))
  -- If the flash is off, the call returns `Off`.
  pub off : old.is_on ≡ false → IsErrOf result Off
  -- It asks a journal for at most 12 bytes.
  pub journal : new.journaled ≤ old.journaled + 12
  pub ends : Ends result old new

-- A call withdraws the pending request of an image, if there is one.
pub record Withdraws (map : SectorMap) (image : ℕ) (old new : Chip)
    {T : Type 0} (result : Result T FlashError) : Type 0 where
  -- No part changes except the secondary slot and its trailer.
  pub outside : Keeps map (incoming_of image) old new
  -- Of the slot only the first sector changes.
  pub rest : KeepsBehindFirst map image Secondary old new
  -- If the slot's first unit and the trailer are erased, nothing changes.
  pub idle : first_is_set (incoming_slot map old image) ≡ false
      → are_erased (trailer_bytes map old image Secondary) ≡ true → new ≡ old
  -- In each case slot and fields are as they were, or no request is pending: the magic isn't good,
  -- the withdrawn unit is set, or the slot's first unit is erased.
  pub either : ((incoming_slot map new image ≡ incoming_slot map old image)
      × (fields_at map new image Secondary ≡ fields_at map old image Secondary))
      ⊎ (standing_of map new image ≡ None)
  -- On success the trailer is erased.
  pub ok : OnOk result (fields_at map new image Secondary ≡ erased_fields)
  pub bytes : OnOk result (are_erased (trailer_bytes map new image Secondary) ≡ true)
  -- On success the slot's first unit is erased.
  pub front : OnOk result (first_is_set (incoming_slot map new image) ≡ false)
  -- On success each byte of the slot's first sector is erased if its first unit was set.
  pub first : OnOk result (first_is_set (incoming_slot map old image) ≡ true
      → are_erased (first_sector map.sector_size (incoming_slot map new image)) ≡ true)
  -- If the slot's first unit was erased, the slot doesn't change, in each case.
  pub unset : first_is_set (incoming_slot map old image) ≡ false
      → incoming_slot map new image ≡ incoming_slot map old image
  pub erases : OnOk result (new.erases ≡ old.erases
      + (if first_is_set (incoming_slot map old image) then 1 else 0)
      + (if are_erased (trailer_bytes map old image Secondary) then 0 else 1))
  -- If the flash is off, the call returns `Off`.
  pub off : old.is_on ≡ false → IsErrOf result Off
  -- It asks a journal for at most 44 bytes, and for at most 12 if the slot's first unit was erased.
  pub journal : new.journaled ≤ old.journaled + 44
  pub journal_unset : first_is_set (incoming_slot map old image) ≡ false
      → new.journaled ≤ old.journaled + 12
  pub ends : Ends result old new
