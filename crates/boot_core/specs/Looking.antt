-- What is found by looking whether slots begin with intact images.
use Rattle.std.specs.Prelude.{◌≡◌, ℕ, Bool, true, false, Option, None}
use Rattle.flash_model.specs.Chip.{Chip}
use Rattle.sector_map.specs.declared.layout.SectorMap.{SectorMap}
use Rattle.sector_map.specs.declared.layout.Side.{Side}
use Rattle.common.specs.Masks.{is_member}
use Rattle.upload.specs.Steady.{IsFront}
use Rattle.upload.specs.View.{view}
use Rattle.flash_contents.specs.Starting.{IsHeld, IsLowestLost}

-- Whether an image is in a set and its slot on a side begins with no intact image.
abbrev pub IsMemberLost : SectorMap → ℕ → ℕ → Side → Chip → Bool → Type 0
IsMemberLost map mask image side chip true = (is_member mask image ≡ true)
    × IsFront ((view map chip).slot image side) None
IsMemberLost map mask image side chip false = is_member mask image ≡ true
    → IsHeld ((view map chip).slot image side)

-- The lowest image of a set whose slot on a side begins with no intact image, or none.
abbrev pub IsLowestLostIn : SectorMap → ℕ → Side → Chip → Option ℕ → Type 0
IsLowestLostIn map mask side chip lost = IsLowestLost (view map chip) mask side lost
