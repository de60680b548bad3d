-- The bytes of a slot and of a file in it, and the errors of describing them.
use Rattle.std.specs.Prelude.{◌≡◌, ℕ, Bool, false, true, List, Option, Some, None, Result, Ok, Err, take}
use Rattle.flash_model.specs.Chip.{Chip}
use Rattle.flash_model.specs.declared.error.FlashError.TheVariants.{Off}
use Rattle.sector_map.specs.declared.layout.SectorMap.{SectorMap}
use Rattle.sector_map.specs.declared.layout.Side.{Side}
use Rattle.sector_map.specs.Part.{Slot}
use Rattle.sector_map.specs.Map.{part_of}
use Rattle.image_reading.specs.declared.desc.Desc.{Desc}
use Rattle.image_reading.specs.declared.error.ImageError.{ImageError}
use Rattle.image_reading.specs.declared.error.SlotError.{SlotError}
use Rattle.image_reading.specs.declared.error.SlotError.TheVariants.{Image, Flash, NoMemory}
use Rattle.image_reading.specs.Fault.{IsFrontFault}
use Rattle.image_reading.specs.Image.{BeginsIntact}

-- The bytes of a slot.
abbrev pub slot_bytes : SectorMap → Chip → ℕ → Side → List ℕ
slot_bytes map chip image side = part_of map chip (Slot image side)

-- The bytes of a file at the beginning of a slot.
abbrev pub file_bytes : SectorMap → Chip → ℕ → Side → ℕ → List ℕ
file_bytes map chip image side len = take len (slot_bytes map chip image side)

-- The flash was on and this check of the image is the first that fails, or the flash was off. The
-- error is never `NoMemory`.
abbrev pub IsSlotFault : Bool → (ImageError → Type 0) → SlotError → Type 0
IsSlotFault was_on Fails (Image fault) = (was_on ≡ true) × Fails fault
IsSlotFault was_on Fails (Flash fault) = (was_on ≡ false) × (fault ≡ Off)
IsSlotFault was_on Fails NoMemory = ⊥

-- The bytes begin with an intact image with this description, or one of its checks fails.
abbrev pub IsFoundIntact : List ℕ → Option Desc → Type 0
IsFoundIntact bytes (Some description) = BeginsIntact bytes description
IsFoundIntact bytes None = (fault : ImageError) × IsFrontFault bytes fault

-- The result of a call that fills a place: the description in the place, or none.
abbrev pub found_in : Desc → Bool → Option Desc
found_in description true = Some description
found_in description false = None

-- The result of a call that fills a place, read as if it returned the description.
abbrev pub read_in : {E : Type 0} → Desc → Result Unit E → Result Desc E
read_in description (Ok done) = Ok description
read_in description (Err fault) = Err fault
