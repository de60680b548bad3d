-- The state of a device, as its log and its trailers hold it.
use Rattle.std.specs.Prelude.{◌≡◌, ℕ, List, map as each, slice_index}
use Rattle.std.specs.List.{range_with_len}
use Rattle.flash_model.specs.Chip.{Chip}
use Rattle.sector_map.specs.declared.layout.SectorMap.{SectorMap}
use Rattle.sector_map.specs.declared.layout.Side.TheVariants.{Primary, Secondary}
use Rattle.trailer.specs.declared.kinds.SwapType.{SwapType}
use Rattle.trailer.specs.Fields.{fields_at, trailer_of}
use Rattle.trailer.specs.SwapTable.{swap_type_of}
use Rattle.set_log.specs.declared.state.State.{State}
use Rattle.inspecting.specs.declared.flash_state.FlashState.{FlashState}
use Rattle.inspecting.specs.declared.flash_state.ImageFloor.{ImageFloor}
use Rattle.inspecting.specs.declared.flash_state.ImageSwap.{ImageSwap}

-- What the trailers of an image ask of the next boot.
abbrev pub swap_type_in : SectorMap → Chip → ℕ → SwapType
swap_type_in map chip image =
    swap_type_of (trailer_of (fields_at map chip image Primary))
    (trailer_of (fields_at map chip image Secondary))

abbrev pub swap_in : SectorMap → Chip → ℕ → ImageSwap
swap_in map chip image = record { image = image; swap_type = swap_type_in map chip image }

-- What the trailers of the first n images ask of the next boot, in order.
abbrev pub swaps_in : SectorMap → Chip → ℕ → List ImageSwap
swaps_in map chip n = each (swap_in map chip) (range_with_len 0 n)

-- The least security counter that an image may have.
abbrev pub floor_in : State → ℕ → ImageFloor
floor_in held image = record { image = image; floor = slice_index held.floors image }

-- The same of the first n images, in order.
abbrev pub floors_in : State → ℕ → List ImageFloor
floors_in held n = each (floor_in held) (range_with_len 0 n)

-- The state of a device whose log has this state.
pub record IsFlashState (map : SectorMap) (chip : Chip) (held : State) (found : FlashState)
    : Type 0 where
  pub state : found.state ≡ held
  pub floors : found.floors.items ≡ floors_in held map.images
  pub swaps : found.swaps.items ≡ swaps_in map chip map.images
