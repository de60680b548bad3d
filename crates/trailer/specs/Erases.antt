-- What a call that erases a trailer does.
use Rattle.std.specs.Prelude.{◌≡◌, ℕ, ◌+◌, ◌≤◌, true, false, if◌then◌else◌, Result, IsErrOf, OnOk}
use Rattle.flash_model.specs.declared.error.FlashError.{FlashError}
use Rattle.flash_model.specs.declared.error.FlashError.TheVariants.{Off}
use Rattle.flash_model.specs.Chip.{Chip, Ends}
use Rattle.sector_map.specs.declared.layout.SectorMap.{SectorMap}
use Rattle.sector_map.specs.declared.layout.Side.{Side}
use Rattle.sector_map.specs.Map.{Keeps}
use Rattle.sector_map.specs.Part.{TrailerOf, only}
use Rattle.flash_model.specs.Units.{are_erased}
use Rattle.trailer.specs.Fields.{erased_fields, fields_at, trailer_bytes}

-- A call erases a trailer.
pub record ErasesTrailer (map : SectorMap) (image : ℕ) (side : Side) (old new : Chip)
    {T : Type 0} (result : Result T FlashError) : Type 0 where
  -- No other part changes.
  pub outside : Keeps map (only (TrailerOf image side)) old new
  -- On success each byte of the trailer is erased.
  pub bytes : OnOk result (are_erased (trailer_bytes map new image side) ≡ true)
  pub ok : OnOk result (fields_at map new image side ≡ erased_fields)
  pub erases : OnOk result (new.erases ≡ old.erases + 1)
  -- If the flash is off, the call returns `Off`.
  pub off : old.is_on ≡ false → IsErrOf result Off
  -- It asks a journal for at most 12 bytes.
  pub journal : new.journaled ≤ old.journaled + 12
  pub ends : Ends result old new

-- A call erases a trailer, unless each of its bytes is erased.
pub record Clears (map : SectorMap) (image : ℕ) (side : Side) (old new : Chip)
    {T : Type 0} (result : Result T FlashError) : Type 0 where
  -- No other part changes.
  pub outside : Keeps map (only (TrailerOf image side)) old new
  -- If the trailer is erased, nothing changes.
  pub idle : are_erased (trailer_bytes map old image side) ≡ true → new ≡ old
  -- On success each byte of the trailer is erased.
  pub bytes : OnOk result (are_erased (trailer_bytes map new image side) ≡ true)
  pub ok : OnOk result (fields_at map new image side ≡ erased_fields)
  pub erases : OnOk result (new.erases ≡ old.erases
      + (if are_erased (trailer_bytes map old image side) then 0 else 1))
  -- If the flash is off, the call returns `Off`.
  pub off : old.is_on ≡ false → IsErrOf result Off
  -- It asks a journal for at most 12 bytes.
  pub journal : new.journaled ≤ old.journaled + 12
  pub ends : Ends result old new
