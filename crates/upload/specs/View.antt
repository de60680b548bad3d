-- What the layers above see of a flash: the contents of its parts.
use Rattle.std.specs.Prelude.{◌≡◌, ℕ, Bool, false, List, Option}
use Rattle.flash_model.specs.Chip.{Chip}
use Rattle.sector_map.specs.declared.layout.SectorMap.{SectorMap}
use Rattle.sector_map.specs.declared.layout.Side.{Side}
use Rattle.sector_map.specs.Part.{Part, Slot, TrailerOf, Scratch, Log}
use Rattle.sector_map.specs.Map.{part_of, slot_sectors}
use Rattle.trailer.specs.Fields.{Fields, fields_at}
use Rattle.set_log.specs.declared.state.State.{State}
use Rattle.set_log.specs.Log.{state_of}

-- The parts of a flash, its power and its counts.
pub record View : Type 0 where
  pub images : ℕ
  -- The number of sectors of each slot of an image.
  pub sectors : ℕ → ℕ
  pub slot : ℕ → Side → List ℕ
  pub trailer : ℕ → Side → Fields
  pub scratch : List ℕ
  pub log : Option State
  pub is_on : Bool
  pub cuts : ℕ
  pub erases : ℕ

-- What is seen of a flash through a map.
abbrev pub view : SectorMap → Chip → View
view map chip = record {
  images = map.images;
  sectors = slot_sectors map;
  slot = λ image side. part_of map chip (Slot image side);
  trailer = fields_at map chip;
  scratch = part_of map chip Scratch;
  log = state_of map chip;
  is_on = chip.is_on;
  cuts = chip.cuts;
  erases = chip.erases;
}

-- Each part that isn't touched reads as it did.
pub record KeepsView (touched : Part → Bool) (old new : View) : Type 0 where
  pub images : new.images ≡ old.images
  pub sectors : new.sectors ≡ old.sectors
  pub slots : (image : ℕ) (side : Side) → touched (Slot image side) ≡ false
      → new.slot image side ≡ old.slot image side
  pub trailers : (image : ℕ) (side : Side) → touched (TrailerOf image side) ≡ false
      → new.trailer image side ≡ old.trailer image side
  pub scratch : touched Scratch ≡ false → new.scratch ≡ old.scratch
  pub log : touched Log ≡ false → new.log ≡ old.log
