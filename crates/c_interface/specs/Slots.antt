-- The description of the image in a slot.
use Rattle.std.specs.Prelude.{◌≡◌, ◌⊎◌, ℕ, ◌<◌, ◌≤◌, List}
use Rattle.flash_model.specs.Chip.{Chip}
use Rattle.sector_map.specs.declared.layout.SectorMap.{SectorMap}
use Rattle.sector_map.specs.declared.layout.Side.{Side}
use Rattle.sector_map.specs.declared.layout.Side.TheVariants.{Primary, Secondary}
use Rattle.image_reading.specs.Slot.{slot_bytes}
use Rattle.c_interface.specs.declared.description.Description.{Description}
use Rattle.c_interface.specs.Numbers.{NO_IMAGE}
use Rattle.c_interface.specs.declared.setup.CheckedSetup.{CheckedSetup}
use Rattle.c_interface.specs.declared.setup.Setup.{Setup}
use Rattle.c_interface.specs.Description.{AnswersFront, no_description}
use Rattle.c_interface.specs.SavedState.{IsFlashOf}
use Rattle.c_interface.specs.Setup.{IsCheckedSetup, IsRefusedSetup}

-- The answer is that for this slot of the flash.
pub record DescribesSlot (map : SectorMap) (bytes : List ℕ) (image : ℕ) (side : Side)
    (description : Description) (number : ℕ) : Type 0 where
  pub chip : Chip
  pub flash : IsFlashOf map bytes chip
  pub answers : AnswersFront (slot_bytes map chip image side) description number

-- The side of a number.
abbrev pub IsSide : ℕ → Side → Type 0
IsSide number Primary = number ≡ 0
IsSide number Secondary = number ≡ 1

-- There is no such slot: the map lacks the image, or the number is of no side.
abbrev pub IsNoSlot : SectorMap → ℕ → ℕ → Type 0
IsNoSlot map image number = (map.images ≤ image) ⊎ (2 ≤ number)

-- The answer of the call. The description is blank if there is no such slot.
pub data AnswersSlot (setup : Setup) (image number_of_side : ℕ) (bytes : List ℕ)
    (description : Description) (number : ℕ) : Type 0 where
  Described : (checked : CheckedSetup) (side : Side) → IsCheckedSetup setup bytes checked
      → IsSide number_of_side side → image < checked.map.images
      → DescribesSlot checked.map bytes image side description number
      → AnswersSlot setup image number_of_side bytes description number
  SetupRefused : IsRefusedSetup setup bytes number → description ≡ no_description
      → AnswersSlot setup image number_of_side bytes description number
  NoImage : (checked : CheckedSetup) → IsCheckedSetup setup bytes checked
      → IsNoSlot checked.map image number_of_side
      → number ≡ NO_IMAGE → description ≡ no_description
      → AnswersSlot setup image number_of_side bytes description number
