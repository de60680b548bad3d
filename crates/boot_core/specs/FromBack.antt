-- Contracts of a boot from a record Back or BackSettle: one record for each function.
use Rattle.std.specs.Prelude.{◌≡◌, ◌⊎◌, ◌+◌, ◌*◌, ◌≤◌, Bool, true, false, Some, Result, IfOk, OnOk}
use Rattle.flash_model.specs.Chip.{Chip, Ends}
use Rattle.flash_model.specs.declared.error.FlashError.{FlashError}
use Rattle.sector_map.specs.Map.{Keeps}
use Rattle.sector_map.specs.Part.{Log, only, swap_of}
use Rattle.common.specs.Masks.{is_member}
use Rattle.sector_map.specs.declared.layout.SectorMap.{SectorMap}
use Rattle.sector_map.specs.declared.layout.Side.TheVariants.{Secondary}
use Rattle.set_log.specs.Log.{state_of}
use Rattle.set_log.specs.declared.state.RecordKind.TheVariants as log
use Rattle.set_log.specs.declared.state.State.{State}
use Rattle.swap_scratch.specs.Steps.{AsksForSteps}
use Rattle.swap_scratch.specs.Swap.{steps_done, steps_in_all}
use Rattle.machine.specs.Device.{DeviceState, Trial}
use Rattle.upload.specs.Steady.{IsSteadyAt}
use Rattle.upload.specs.View.{view}
use Rattle.flash_contents.specs.Holding.{AreSettled, IsSwappedBack, Stands}
use Rattle.flash_contents.specs.Passing.{IsGoingBack, IsSwappingBackSome, reply_of}
use Rattle.machine.specs.States.{reverted}
use Rattle.flash_contents.specs.Wear.{IsSettling, IsResumed, members}
use Rattle.flash_contents.specs.declared.finding.Finding.{Finding}
use Rattle.machine.specs.declared.reply.Reply.{Reply}
use Rattle.machine.specs.declared.reply.Reply.TheVariants.{Reverted}
use Rattle.boot_core.specs.Journal.{AsksToBoot, LogsKind, ReturnsOn, is_reverting}
use Rattle.boot_core.specs.BootEnds.{BootEndsForAny, Passes}
use Rattle.boot_core.specs.Found.{IsLostFor}
use Rattle.boot_core.specs.Moving.{settled_parts}
use Rattle.boot_core.specs.Wear.{IsSetMoved}

-- The swap back of the set of a record is finished. The record is unchanged.
pub record IsSwapBackDone (map : SectorMap) (state : State) (old new : Chip) : Type 0 where
  pub ok : (s : DeviceState) (trial : Trial) → state.mask ≡ trial.set
      → IsSwappingBackSome map old s trial → IsSwappedBack (view map new) s trial log.Back
  -- A sector is erased for each step that was left.
  pub erases : (s : DeviceState) (trial : Trial) → state.mask ≡ trial.set
      → IsSwappingBackSome map old s trial
      → new.erases + steps_done map old Secondary state.mask
      ≤ old.erases + steps_in_all map old Secondary state.mask

-- A call finishes the swap back of the set of a record, from wherever it is. However it ends, the
-- revert is at some step of the swap.
pub record SwapsBack (map : SectorMap) (state : State) (old new : Chip)
    (result : Result Unit FlashError) : Type 0 where
  -- Only the slots of the set, their trailers that count the swap, and scratch are written.
  pub outside : Keeps map (swap_of state.mask Secondary) old new
  pub read : state_of map new ≡ Some state
  pub stands : (s : DeviceState) (trial : Trial) → state.mask ≡ trial.set
      → IsSwappingBackSome map old s trial → IsSwappingBackSome map new s trial
  pub done : OnOk result (IsSwapBackDone map state old new)
  -- It counts no step less, and asks a journal for no more than the steps that it counts, and one
  -- more.
  pub forward : steps_done map old Secondary state.mask ≤ steps_done map new Secondary state.mask
  pub journal : AsksForSteps map (steps_done map old Secondary state.mask)
      (steps_done map new Secondary state.mask + 1) old new
  -- A call that succeeds asks for no more than the steps that it counts.
  pub journal_ok : OnOk result (AsksForSteps map (steps_done map old Secondary state.mask)
      (steps_done map new Secondary state.mask) old new)
  pub ends : Ends result old new

-- The set of a trial is swapped back by a swap that counts as at its last step.
abbrev pub IsBackDone : SectorMap → State → Chip → DeviceState → Trial → Type 0
IsBackDone map state chip s trial = (state.mask ≡ trial.set)
    × IsSwappingBackSome map chip s trial × IsSwappedBack (view map chip) s trial log.Back

-- The log says in the record `now` that the set of a record is swapped back.
pub record IsBackRecorded (map : SectorMap) (state : State) (old new : Chip) (now : State)
    : Type 0 where
  pub ok : (s : DeviceState) (trial : Trial) → IsBackDone map state old s trial
      → IsSwappedBack (view map new) s trial log.BackSettle
  pub recorded : state_of map new ≡ Some now
  pub is : now ≡ record state { kind = log.BackSettle; permanent = false }
  -- At most one sector is erased.
  pub erases : new.erases ≤ old.erases + 1

-- From Back to BackSettle: a call records that the set of a record is swapped back.
pub record RecordsBack (map : SectorMap) (state : State) (old new : Chip)
    (result : Result State FlashError) : Type 0 where
  -- However it ends, the device is on its way back.
  pub passes : Passes map (settled_parts state.mask) old new
      ((s : DeviceState) (trial : Trial) → IsBackDone map state old s trial
      → IsGoingBack map new s trial)
      (IsBackRecorded map state old new) result
  pub open passes use *
  -- On any flash, the log says so, or is as before.
  pub returns : ReturnsOn map state old new

-- After BackSettle has settled the set, a call records that the old images run.
pub record RecordsReturned (map : SectorMap) (old new : Chip) (result : Result Unit FlashError)
    : Type 0 where
  -- Only the log is written.
  pub outside : Keeps map (only Log) old new
  -- However the call ends, the set is swapped back and settled as before, or the device is at rest.
  pub stands : (s : DeviceState) (trial : Trial)
      → IsSwappedBack (view map old) s trial log.BackSettle
      → AreSettled (view map old) trial.set true
      → IsSwappedBack (view map new) s trial log.BackSettle
      ⊎ IsSteadyAt (view map new) (reverted s trial)
  -- On any flash, the log says what it said before, or that the device is at rest.
  pub either : (state_of map new ≡ state_of map old)
      ⊎ ((now : State) × (state_of map new ≡ Some now) × (now.kind ≡ log.Steady))
  -- If the call succeeds, the device is at rest.
  pub ok : OnOk result ((s : DeviceState) (trial : Trial)
      → IsSwappedBack (view map old) s trial log.BackSettle
      → AreSettled (view map old) trial.set true
      → IsSteadyAt (view map new) (reverted s trial))
  pub erases : OnOk result (new.erases ≤ old.erases + 1)
  -- It asks a journal for at most 120 bytes.
  pub journal : new.journaled ≤ old.journaled + 120
  pub ends : Ends result old new

-- The set of a record, which was swapped back, is settled, and the device is at rest.
pub record IsReturned (map : SectorMap) (state : State) (old new : Chip) : Type 0 where
  pub ok : (s : DeviceState) (trial : Trial) → state.mask ≡ trial.set
      → IsSwappedBack (view map old) s trial log.BackSettle
      → IsSteadyAt (view map new) (reverted s trial)
  pub erases : IsSettling map old new state.mask

-- From BackSettle to Steady: a call settles the set of a record, and records that the old images
-- run.
pub record SettlesAndReturns (map : SectorMap) (state : State) (old new : Chip)
    (result : Result Unit FlashError) : Type 0 where
  -- However it ends, the set is swapped back as before, or the device is at rest.
  pub passes : Passes map (settled_parts state.mask) old new
      ((s : DeviceState) (trial : Trial) → state.mask ≡ trial.set
      → IsSwappedBack (view map old) s trial log.BackSettle
      → IsSwappedBack (view map new) s trial log.BackSettle
      ⊎ IsSteadyAt (view map new) (reverted s trial))
      (λ done. IsReturned map state old new) result
  pub open passes use *
  -- On any flash, the log is as before, or says that the device is at rest.
  pub either : (state_of map new ≡ Some state)
      ⊎ ((now : State) × (state_of map new ≡ Some now) × (now.kind ≡ log.Steady))
  -- It asks a journal for at most 92 bytes for each image of the set, and 120.
  pub journal : new.journaled ≤ old.journaled + (92 * members map state.mask + 120)

-- The set of a record, which was swapped back, is settled after a record, and the device is at rest.
pub record IsBackFinished (map : SectorMap) (state : State) (old new : Chip) : Type 0 where
  pub ok : (s : DeviceState) (trial : Trial) → IsBackDone map state old s trial
      → IsSteadyAt (view map new) (reverted s trial)
  pub erases : new.erases ≤ old.erases + 2 * members map state.mask + 2

-- From Back to Steady, once the set of a record is swapped back: a call records that, settles the
-- set, and records that the old images run.
pub record FinishesBack (map : SectorMap) (state : State) (old new : Chip)
    (result : Result Unit FlashError) : Type 0 where
  -- However it ends, the device is on its way back, or at rest.
  pub passes : Passes map (settled_parts state.mask) old new
      ((s : DeviceState) (trial : Trial) → IsBackDone map state old s trial
      → IsGoingBack map new s trial ⊎ IsSteadyAt (view map new) (reverted s trial))
      (λ done. IsBackFinished map state old new) result
  pub open passes use *
  -- On any flash, the log says so, or is as before.
  pub returns : ReturnsOn map state old new

-- A boot that carries a revert out from a record Back, wherever its swap is.
abbrev pub CarriesBack : SectorMap → State → Chip → Chip → Result Reply FlashError → Type 0
CarriesBack map state old new result = BootEndsForAny map (is_member state.mask) (Stands map old)
    (λ reply. (s : DeviceState) → Stands map old s
    → IsResumed map old new Secondary state.mask × IsSetMoved state.mask reply) old new result

-- A boot that begins the swap back of a set reverts it.
pub record Reverts (map : SectorMap) (state : State) (old new : Chip)
    (result : Result Reply FlashError) : Type 0 where
  pub boot : CarriesBack map state old new result
  -- If it succeeds, it replies that the set reverted.
  pub is : IfOk result (λ reply. reply ≡ Reverted state.mask)
  -- On any flash, the log says that the set reverts, or that the device is at rest.
  pub reverting : LogsKind is_reverting (state_of map new)

-- A boot from a record Back finishes its swap, and reverts its set if that is intact then.
-- Otherwise it writes nothing more, and is refused for the lowest image of the set that isn't.
pub record BootsFromBack (map : SectorMap) (state : State) (old new : Chip)
    (result : Result Reply FlashError) : Type 0 where
  pub boot : CarriesBack map state old new result
  pub stops : IfOk result (λ reply. (finding : Finding) (permanent : Bool)
      → reply ≡ reply_of finding permanent → IsLostFor (view map new) state.mask finding
      × Keeps map (swap_of state.mask Secondary) old new)
  -- It asks a journal for no more than room to boot, or gets a step further.
  pub journal : AsksToBoot map state old new

-- A boot that settles the set of a record BackSettle.
abbrev pub SettlesBackFor : SectorMap → State → Chip → Chip → Result Reply FlashError → Type 0
SettlesBackFor map state old new result = BootEndsForAny map (is_member state.mask)
    (Stands map old)
    (λ reply. (s : DeviceState) → Stands map old s
    → IsSettling map old new state.mask × IsSetMoved state.mask reply) old new result

-- A boot from a record BackSettle settles its set if that is intact. Otherwise it writes nothing,
-- and is refused for the lowest image of the set that isn't.
pub record BootsFromBackSettle (map : SectorMap) (state : State) (old new : Chip)
    (result : Result Reply FlashError) : Type 0 where
  pub boot : SettlesBackFor map state old new result
  pub stops : IfOk result (λ reply. (finding : Finding) (permanent : Bool)
      → reply ≡ reply_of finding permanent
      → IsLostFor (view map new) state.mask finding × (new ≡ old))
  -- It asks a journal for no more than room to boot.
  pub journal : AsksToBoot map state old new
