-- How far a swap has got, by the status units of a trailer.
use Rattle.std.specs.Prelude.{ℕ, zero, suc, ◌+◌, ◌*◌, ◌==◌, Bool, if◌then◌else◌}
use Rattle.std.specs.Prelude.{List, slice_range, take, drop}
use Rattle.flash_model.specs.Chip.{Chip}
use Rattle.sector_map.specs.declared.layout.SectorMap.{SectorMap}
use Rattle.sector_map.specs.declared.layout.Side.{Side}
use Rattle.sector_map.specs.Map.{slot_sectors}
use Rattle.flash_model.specs.Units.{are_erased}
use Rattle.trailer.specs.Fields.{trailer_bytes}

-- A status unit of a trailer, numbered from 0.
abbrev pub status_unit : List ℕ → ℕ → List ℕ
status_unit bytes status = slice_range bytes (8 * status) (8 * status + 8)

-- Whether n status units of a trailer, from a number on, are all erased.
abbrev pub are_units_erased : List ℕ → ℕ → ℕ → Bool
are_units_erased bytes from n = are_erased (slice_range bytes (8 * from) (8 * from + 8 * n))

-- How many of the first n units of some bytes are set, up to the first erased one.
unfoldable pub set_units : List ℕ → ℕ → ℕ
set_units bytes zero = 0
set_units bytes (suc n) = if are_erased (take 8 bytes) then 0 else set_units (drop 8 bytes) n + 1

-- Whether eight status units of a trailer, from a number on, are all set.
abbrev pub is_block_set : List ℕ → ℕ → Bool
is_block_set bytes from = set_units (slice_range bytes (8 * from) (8 * from + 64)) 8 == 8

-- The status count of a trailer, which has three units for each sector of the slot.
abbrev pub status_count_of : SectorMap → Chip → ℕ → Side → ℕ
status_count_of map chip image side =
    set_units (trailer_bytes map chip image side) (3 * slot_sectors map image)
