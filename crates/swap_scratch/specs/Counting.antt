-- What a swap knows of the status units of a trailer, and how it finds the status count.
use Rattle.std.specs.Prelude.{◌≡◌, ℕ, ◌*◌, ◌<◌, ◌≤◌, true}
use Rattle.std.specs.Prelude.{Result, IfOk}
use Rattle.flash_model.specs.declared.error.FlashError.{FlashError}
use Rattle.flash_model.specs.Chip.{Chip, Ends}
use Rattle.flash_model.specs.Units.{are_erased}
use Rattle.sector_map.specs.declared.layout.SectorMap.{SectorMap}
use Rattle.sector_map.specs.declared.layout.Side.{Side}
use Rattle.sector_map.specs.Map.{slot_sectors}
use Rattle.trailer.specs.Fields.{trailer_bytes}
use Rattle.trailer.specs.Status.{status_unit, status_count_of}
use Rattle.swap_scratch.specs.declared.counting.KnownUnits.{KnownUnits}

-- What is known of the status units of a trailer is true.
pub record IsKnown (map : SectorMap) (chip : Chip) (image : ℕ) (side : Side) (known : KnownUnits)
    : Type 0 where
  pub is : known.count ≡ status_count_of map chip image side
  -- The trailer has the units that are said to be erased.
  pub ordered : known.count ≤ known.clear
  pub within : known.clear ≤ 3 * slot_sectors map image
  -- They are erased.
  pub free : (j : ℕ) → known.count ≤ j → j < known.clear
      → are_erased (status_unit (trailer_bytes map chip image side) j) ≡ true

-- A step has set the first of the units that were known to be erased. The others still are.
pub record IsAfterStep (map : SectorMap) (chip : Chip) (image : ℕ) (side : Side)
    (known : KnownUnits) : Type 0 where
  pub past : known.count < status_count_of map chip image side
  pub below : known.count < 3 * slot_sectors map image
  pub within : known.clear ≤ 3 * slot_sectors map image
  pub free : (j : ℕ) → known.count < j → j < known.clear
      → are_erased (status_unit (trailer_bytes map chip image side) j) ≡ true

-- A call finds the status count of a trailer, and which units after it are erased.
pub record FindsCount (map : SectorMap) (image : ℕ) (side : Side) (old new : Chip)
    (result : Result KnownUnits FlashError) : Type 0 where
  -- Nothing changes.
  pub same : new ≡ old
  -- If the call succeeds, what it returns is true.
  pub ok : IfOk result (λ known. IsKnown map old image side known)
  pub ends : Ends result old new
