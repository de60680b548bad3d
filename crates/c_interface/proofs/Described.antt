-- Laws of the image in a slot of borrowed bytes.
use Rattle.std.proofs.Common.{◌≡◌, ◌/◌, ℕ, List, length}
use Rattle.flash_model.specs.Chip.{Chip, Fixed}
use Rattle.flash_model.specs.Memory.{new_chip}
use Rattle.sector_map.specs.declared.layout.SectorMap.{SectorMap}
use Rattle.sector_map.specs.declared.layout.Side.{Side}
use Rattle.image_reading.specs.Slot.{slot_bytes}
use Rattle.c_interface.specs.declared.description.Description.{Description}
use Rattle.c_interface.specs.Description.{AnswersFront}
use Rattle.c_interface.specs.Setup.{HasRoom}
use Rattle.c_interface.specs.Slots.{DescribesSlot}
use Rattle.c_interface.proofs.StepLaws.{borrowed_flash}

-- The result for a slot of a flash that was just made of the bytes.
pub describes_slot : (map : SectorMap) (bytes : List ℕ) (image : ℕ) (side : Side) (description : Description) (number : ℕ)
    (chip : Chip) (fixed : Fixed) → HasRoom map bytes
    → chip ≡ record (new_chip map.sector_size (length bytes / map.sector_size) bytes) { fixed = fixed }
    → AnswersFront (slot_bytes map chip image side) description number
    → DescribesSlot map bytes image side description number
describes_slot map bytes image side description number chip fixed room is answers = record {
  chip = chip;
  flash = borrowed_flash map bytes chip fixed map.is_map room is;
  answers = answers;
}
