-- The slots of a flash, as ranges of its bytes.
use Rattle.std.proofs.Common.{◌≡◌, ℕ, ◌+◌, ◌*◌, ◌<◌, ◌≤◌, List, ap, arith, slice_range, sym}
use Rattle.device_texts.specs.FlashOf.{flash_of}
use Rattle.image_reading.specs.Slot.{slot_bytes}
use Rattle.sector_map.specs.declared.layout.SectorMap.{SectorMap}
use Rattle.sector_map.specs.declared.layout.Side.{Side}
use Rattle.sector_map.specs.declared.layout.Side.TheVariants.{Primary, Secondary}
use Rattle.sector_map.specs.Map.{IsMap, first_of, length_of, part_of, sectors_of, slot_sectors, start_of}
use Rattle.sector_map.specs.Part.{Slot}
use Rattle.sector_map.proofs.PartBytes.{end_of}
use Rattle.sector_map.proofs.Places.{before_within}
use Rattle.sector_map.proofs.Products.{mul_le}

-- The sectors of a slot are sectors of the map.
sectors_within : (map : SectorMap) (image : ℕ) (side : Side) → IsMap map → image < map.images
    → first_of map (Slot image side) + slot_sectors map image ≤ sectors_of map
sectors_within map image Primary fits there = omega (arith, before_within map image fits there)
sectors_within map image Secondary fits there = omega (arith, before_within map image fits there)

-- A slot lies in the flash.
pub slot_within : (map : SectorMap) (image : ℕ) (side : Side) → IsMap map → image < map.images
    → start_of map (Slot image side) + length_of map (Slot image side) ≤ sectors_of map * map.sector_size
slot_within map image side fits there =
    let first = first_of map (Slot image side) in
    grind (
      arith,
      mul_le (first + slot_sectors map image) (sectors_of map) map.sector_size
          (sectors_within map image side fits there),
    )

-- The bytes of a slot are those of the flash from the slot's start on.
pub slot_range : (map : SectorMap) (bytes : List ℕ) (image : ℕ) (side : Side)
    → slice_range bytes (start_of map (Slot image side))
    (start_of map (Slot image side) + length_of map (Slot image side))
    ≡ slot_bytes map (flash_of map bytes) image side
unfolding part_of
slot_range map bytes image side =
    ap (slice_range bytes (start_of map (Slot image side))) (sym (end_of map (Slot image side)))
