-- Lemmas about the places of records and closing units in the log.
use Rattle.std.proofs.Common.{◌≡◌, ℕ, ◌+◌, ◌-◌, ◌*◌, ◌<◌, ◌≤◌, arith}
use Rattle.flash_model.proofs.Frame.{product_le}
use Rattle.sector_map.specs.declared.layout.SectorMap.{SectorMap}
use Rattle.sector_map.specs.Part.{Log}
use Rattle.sector_map.specs.Map.{start_of, length_of, places_of, place_of_record, closing_unit, IsMap}

-- A sector has its places for records, and 64 bytes for its closing unit.
pub places_fill : (map : SectorMap) → IsMap map → 64 * places_of map + 64 ≡ map.sector_size
places_fill map fits = omega (arith, fits.sector.blocks, fits.sector.least)

-- The offset of a place for a record in the log.
pub place_in_log : (map : SectorMap) (sector place : ℕ)
    → place_of_record map sector place ≡ start_of map Log + (sector * map.sector_size + 64 * place)
place_in_log map sector place = grind arith

-- The offset of a closing unit in the log.
pub unit_in_log : (map : SectorMap) (sector : ℕ)
    → closing_unit map sector ≡ start_of map Log + (sector * map.sector_size + (map.sector_size - 8))
unit_in_log map sector = grind arith

-- A closing unit ends in the log.
pub unit_fits_log : (map : SectorMap) (sector : ℕ) → IsMap map → sector < 3
    → sector * map.sector_size + (map.sector_size - 8) + 8 ≤ length_of map Log
unit_fits_log map sector fits lt = omega (arith, product_le sector 3 map.sector_size lt, fits.sector.least)
