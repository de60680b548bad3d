-- The state that the log has.
use Rattle.std.specs.Prelude.{◌≡◌, ℕ, Bool, true, false, List, Option, Some, None, Result, Ok, Err}
use Rattle.flash_model.specs.Chip.{Chip}
use Rattle.flash_model.specs.declared.error.FlashError.TheVariants.{Off}
use Rattle.sector_map.specs.declared.layout.SectorMap.{SectorMap}
use Rattle.sector_map.specs.Part.{Log}
use Rattle.sector_map.specs.Map.{part_of}
use Rattle.set_log.specs.declared.error.LogError.{LogError}
use Rattle.set_log.specs.declared.error.LogError.TheVariants.{NoLog, Flash}
use Rattle.set_log.specs.declared.state.State.{State}
use Rattle.set_log.specs.Record.{state_from}
use Rattle.set_log.specs.Ring.{register, has_free_place}

-- The bytes of the log.
abbrev pub log_bytes : SectorMap → Chip → List ℕ
log_bytes map chip = part_of map chip Log

-- The log as a flash of its own, of three sectors.
abbrev pub log_of : SectorMap → Chip → Chip
log_of map chip = record chip {
  sector_size = map.sector_size;
  sectors = 3;
  bytes = log_bytes map chip;
}

-- The current record of the log, if it has one.
abbrev pub record_of : SectorMap → Chip → Option (List ℕ)
record_of map chip = register map.sector_size (log_bytes map chip)

-- The state that a record spells, if there is one.
abbrev pub state_said : ℕ → Option (List ℕ) → Option State
state_said images None = None
state_said images (Some bytes) = state_from images bytes

-- The state of the log: what its current record spells, if that is a valid record.
unfoldable pub state_of : SectorMap → Chip → Option State
state_of map chip = state_said map.images (record_of map chip)

-- Whether a place of the log is free, so that no sector has to be erased for the next record.
abbrev pub is_place_free : SectorMap → Chip → Bool
is_place_free map chip = has_free_place map.sector_size (log_bytes map chip)

-- The result of reading the log: with power its state or that it has none, else that power is off.
abbrev pub Answers : Result State LogError → Option State → Bool → Type 0
Answers (Ok state) stands on = (stands ≡ Some state) × (on ≡ true)
Answers (Err NoLog) stands on = (stands ≡ None) × (on ≡ true)
Answers (Err (Flash error)) stands on = (error ≡ Off) × (on ≡ false)
