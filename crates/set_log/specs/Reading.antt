-- What each call does that finds the current record, or a place for the next one: one record for
-- each call.
use Rattle.std.specs.Prelude.{◌≡◌, ℕ, true, false, List, Option, None, MatchOption}
use Rattle.std.specs.Prelude.{Result, OnOk, IfOk}
use Rattle.flash_model.specs.declared.error.FlashError.{FlashError}
use Rattle.flash_model.specs.Chip.{Chip, Ends}
use Rattle.sector_map.specs.declared.layout.SectorMap.{SectorMap}
use Rattle.set_log.specs.Log.{log_bytes, log_of}
use Rattle.set_log.specs.Ring.{IsActive, active_of, has_room, last_of}
use Rattle.set_log.specs.Written.{IsFirstFree}

-- A call finds the active sector.
pub record FindsActive (map : SectorMap) (old new : Chip) (result : Result (Option ℕ) FlashError)
    : Type 0 where
  -- Nothing changes.
  pub same : new ≡ old
  -- If the call succeeds, the result is the active sector, or none if no sector is active.
  pub ok : IfOk result (λ found. MatchOption found
      (active_of map.sector_size (log_bytes map old) ≡ None)
      (λ sector. IsActive map.sector_size (log_bytes map old) sector))
  -- The call fails if the flash is off.
  pub on : OnOk result (old.is_on ≡ true)
  pub ends : Ends result old new

-- A call reads the last gated record of a sector.
pub record ReadsLast (map : SectorMap) (sector : ℕ) (old new : Chip)
    (result : Result (Option (List ℕ)) FlashError) : Type 0 where
  -- Nothing changes.
  pub same : new ≡ old
  -- If the call succeeds, the result is exact.
  pub ok : IfOk result (λ found. found ≡ last_of map.sector_size (log_bytes map old) sector)
  pub ends : Ends result old new

-- A call finds a place of a sector for the next record.
pub record FindsFree (map : SectorMap) (sector : ℕ) (old new : Chip)
    (result : Result (Option ℕ) FlashError) : Type 0 where
  -- Nothing changes.
  pub same : new ≡ old
  -- If the call succeeds, the result is the first free place of the sector, or none if its last
  -- place isn't erased.
  pub ok : IfOk result (λ found. MatchOption found
      (has_room map.sector_size (log_bytes map old) sector ≡ false)
      (λ place. IsFirstFree map.sector_size (log_of map old) sector place))
  pub ends : Ends result old new
