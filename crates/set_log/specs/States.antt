-- What each call does that reads the state of the log, appends one, or starts a log: one record for
-- each call.
use Rattle.std.specs.Prelude.{◌≡◌, ◌⊎◌, ◌+◌, ◌≤◌, true, false, Some}
use Rattle.std.specs.Prelude.{Result, IsErrOf, OnOk, if◌then◌else◌}
use Rattle.flash_model.specs.declared.error.FlashError.{FlashError}
use Rattle.flash_model.specs.declared.error.FlashError.TheVariants.{Off}
use Rattle.flash_model.specs.Chip.{Chip, Ends}
use Rattle.sector_map.specs.declared.layout.SectorMap.{SectorMap}
use Rattle.sector_map.specs.Map.{IsWithin, Keeps}
use Rattle.sector_map.specs.Part.{Log, only}
use Rattle.set_log.specs.declared.error.LogError.{LogError}
use Rattle.set_log.specs.declared.error.LogError.TheVariants.{Flash}
use Rattle.set_log.specs.declared.state.State.{State}
use Rattle.set_log.specs.Log.{Answers, is_place_free, state_of}
use Rattle.set_log.specs.Record.{fits, record_bytes}
use Rattle.set_log.specs.Written.{PutsRecord}
use Rattle.set_log.specs.Writing.{BeginsLog}

-- A call reads the state of the log.
pub record ReadsState (map : SectorMap) (old new : Chip) (result : Result State LogError)
    : Type 0 where
  -- The flash doesn't change.
  pub same : new ≡ old
  -- The result is the state of the log, or that it has none, or that the flash is off.
  pub answers : Answers result (state_of map old) old.is_on
  -- The state of a log keeps the table of records, whatever bytes the log has.
  pub table : (state : State) → state_of map old ≡ Some state → fits map.images state ≡ true
  -- So its set has only images of the map.
  pub within : (state : State) → state_of map old ≡ Some state → IsWithin map state.mask
  -- If the flash is off, the call returns `Off`.
  pub off : old.is_on ≡ false → IsErrOf result (Flash Off)
  -- No sector is erased.
  pub erases : new.erases ≡ old.erases

-- A call appends a state to the log.
pub record Appends (map : SectorMap) (state : State) (old new : Chip) {T : Type 0}
    (result : Result T FlashError) : Type 0 where
  -- Only the log is written.
  pub outside : Keeps map (only Log) old new
  -- In each case the log has the old state or the new one, whatever bytes a power cut left.
  pub either : (state_of map new ≡ state_of map old) ⊎ (state_of map new ≡ Some state)
  -- If the call succeeds, the log has the new state.
  pub ok : OnOk result (state_of map new ≡ Some state)
  -- The record is written at the first free place of the active sector, or at the first place of
  -- the next one.
  pub put : PutsRecord map (record_bytes state) old new result
  -- A call that succeeds erases no sector if a place was free, and otherwise one.
  pub erases : OnOk result (new.erases ≡ old.erases + (if is_place_free map old then 0 else 1))
  -- If the flash is off, the call returns `Off`.
  pub off : old.is_on ≡ false → IsErrOf result Off
  -- It asks a journal for at most 120 bytes.
  pub journal : new.journaled ≤ old.journaled + 120
  -- A call that succeeds wasn't cut. A cut turns the flash off. A flash that was off stays
  -- unchanged.
  pub ends : Ends result old new

-- A call starts a log with a state: if it succeeds, the log has this state.
abbrev pub Starts : SectorMap → State → Chip → Chip → {T : Type 0} → Result T FlashError → Type 0
Starts map state old new result =
    BeginsLog map (record_bytes state) (state_of map new ≡ Some state) old new result
