-- Laws about a place of a swap. With them, calls before a swap and between its parts are joined to
-- it.
use Rattle.std.specs.Prelude.{◌≡◌, ◌≤◌, ℕ, List, Bool, true, false, Some, take}
use Rattle.flash_model.specs.Chip.{Chip}
use Rattle.sector_map.specs.declared.layout.SectorMap.{SectorMap}
use Rattle.sector_map.specs.declared.layout.Side.{Side}
use Rattle.sector_map.specs.declared.layout.Side.TheVariants.{Primary, Secondary}
use Rattle.sector_map.specs.Map.{IsLaidOut, IsWithin, Keeps, part_of, slot_sectors}
use Rattle.sector_map.specs.Part.{Part, Slot, swap_of}
use Rattle.common.specs.Masks.{is_member}
use Rattle.trailer.specs.Fields.{fields_at}
use Rattle.swap_scratch.specs.Used.{used_of, used_bytes}
use Rattle.swap_scratch.specs.Swap.{AreSwapped, IsAllCounted, IsSwapAt}

pub record SwapLaws (map : SectorMap) : Type 0 where
  -- If no status unit of the mask's trailers is set, a swap of the current contents of the slots
  -- begins.
  pub begins : (chip : Chip) (side : Side) (mask : ℕ) → IsLaidOut map chip → IsWithin map mask
      → ((i : ℕ) → is_member mask i ≡ true → (fields_at map chip i side).is_fresh ≡ true)
      → IsSwapAt map chip side mask
      (λ i. take (used_bytes map chip side i) (part_of map chip (Slot i Primary)))
      (λ i. take (used_bytes map chip side i) (part_of map chip (Slot i Secondary)))
  -- If a trailer has a size, the swap moves at least that many bytes.
  pub moves_enough : (chip : Chip) (side : Side) (i size : ℕ)
      → (fields_at map chip i side).size ≡ Some size → size ≤ used_bytes map chip side i
  -- No swap moves more than the slot.
  pub moves_slots : (chip : Chip) (side : Side) (i : ℕ)
      → used_of map chip side i ≤ slot_sectors map i
  -- A call that touches none of the parts of the swap keeps its place.
  pub stays : (side : Side) (mask : ℕ) (touched : Part → Bool) (old new : Chip) (x y : ℕ → List ℕ)
      → IsLaidOut map old → Keeps map touched old new
      → ((part : Part) → swap_of mask side part ≡ true → touched part ≡ false)
      → IsSwapAt map old side mask x y → IsSwapAt map new side mask x y
  -- If the trailers count all steps, each slot begins with the old contents of the other one.
  pub done : (chip : Chip) (side : Side) (mask : ℕ) (x y : ℕ → List ℕ) → IsLaidOut map chip
      → IsSwapAt map chip side mask x y
      → ((i : ℕ) → is_member mask i ≡ true → IsAllCounted map chip side i)
      → AreSwapped map chip mask x y
