-- The record in the log from which a passage of a boot goes on.
use Rattle.std.specs.Prelude.{◌≡◌, ◌≢◌, ◌⊎◌, ℕ, ◌+◌, ◌≤◌, Some, Result, Ok, IfOk}
use Rattle.flash_model.specs.Chip.{Chip, Ends}
use Rattle.flash_model.specs.declared.error.FlashError.{FlashError}
use Rattle.sector_map.specs.declared.layout.SectorMap.{SectorMap}
use Rattle.sector_map.specs.Map.{IsLaidOut, IsWithin, Keeps}
use Rattle.sector_map.specs.Part.{Log, only}
use Rattle.set_log.specs.declared.state.RecordKind.{RecordKind}
use Rattle.set_log.specs.declared.state.State.{State}
use Rattle.set_log.specs.Log.{state_of}
use Rattle.set_log.specs.States.{Appends}
use Rattle.boot_core.specs.Preparing.{IsSetHeld}

-- The map is laid out on the flash, and the log says this state.
pub record HasRecord (map : SectorMap) (state : State) (chip : Chip) : Type 0 where
  pub laid_out : IsLaidOut map chip
  pub read : state_of map chip ≡ Some state

-- The map is laid out on the flash, and the log says this state, which is of this kind.
pub record HasRecordOf (map : SectorMap) (which : RecordKind) (state : State) (chip : Chip) : Type 0 where
  pub laid_out : IsLaidOut map chip
  pub read : state_of map chip ≡ Some state
  pub kind : state.kind ≡ which

-- The map is laid out on the flash, and the log says this state. A set of some images of the map is
-- to be taken. All its images are intact, the running and the requested ones.
pub record CanTake (map : SectorMap) (state : State) (mask : ℕ) (chip : Chip) : Type 0 where
  pub laid_out : IsLaidOut map chip
  pub read : state_of map chip ≡ Some state
  pub some : mask ≢ 0
  pub within : IsWithin map mask
  pub held : IsSetHeld map mask chip

-- The log says `state`, and `now` is that.
pub record IsStateRecorded (map : SectorMap) (state : State) (old new : Chip) (now : State)
    : Type 0 where
  pub says : state_of map new ≡ Some state
  pub recorded : state_of map new ≡ Some now
  pub is : now ≡ state
  -- Nothing was done but to append it.
  pub appended : Appends map state old new {T = Unit} (Ok tt)
  -- At most one sector is erased.
  pub erases : new.erases ≤ old.erases + 1

-- A call appends a state to the log, and returns it.
pub record RecordsState (map : SectorMap) (state : State) (old new : Chip)
    (result : Result State FlashError) : Type 0 where
  -- Only the log is written.
  pub outside : Keeps map (only Log) old new
  -- However the call ends, the log says what it said before, or the state.
  pub either : (state_of map new ≡ state_of map old) ⊎ (state_of map new ≡ Some state)
  -- If the call succeeds, the log says the state.
  pub done : IfOk result (IsStateRecorded map state old new)
  -- It asks a journal for at most 120 bytes.
  pub journal : new.journaled ≤ old.journaled + 120
  pub ends : Ends result old new
