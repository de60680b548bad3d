-- The map that is made of sizes, and the first check of sizes that fails.
use Rattle.std.specs.Prelude.{◌≡◌, ℕ, List, length, slice_index}
use Rattle.sector_map.specs.declared.error.MapError.{MapError}
use Rattle.sector_map.specs.declared.error.MapError.TheVariants.{BadSector, BadCount, TrailerFull, TooLarge}
use Rattle.sector_map.specs.declared.layout.SectorMap.{SectorMap}
use Rattle.sector_map.specs.Sizes.{IsSectorSize, AreImages, HoldTrailers, AreAddressed}
use Rattle.sector_map.specs.Map.{slot_sectors}

-- A map has these sizes: an image for each count, and the counted sectors in each slot of that
-- image.
pub record HasSizes (size : ℕ) (counts : List ℕ) (map : SectorMap) : Type 0 where
  pub sector_size : map.sector_size ≡ size
  pub images : map.images ≡ length counts
  pub sectors : (i : ℕ) → slot_sectors map i ≡ slice_index counts i

-- This check of the sizes is the first that fails.
abbrev pub IsMapFault : ℕ → List ℕ → MapError → Type 0
IsMapFault size counts BadSector = IsSectorSize size → ⊥
IsMapFault size counts BadCount = IsSectorSize size × (AreImages (length counts) counts → ⊥)
IsMapFault size counts TrailerFull =
    IsSectorSize size × AreImages (length counts) counts × (HoldTrailers size counts → ⊥)
IsMapFault size counts TooLarge =
    IsSectorSize size × AreImages (length counts) counts × HoldTrailers size counts
    × (AreAddressed size (length counts) counts → ⊥)
