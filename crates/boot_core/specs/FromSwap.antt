-- Contracts of a boot from a record Swap: one record for each function.
use Rattle.std.specs.Prelude.{◌≡◌, ◌⊎◌, ◌+◌, ◌≤◌, ℕ, Bool, Some, Result, IfOk}
use Rattle.flash_model.specs.Chip.{Chip}
use Rattle.flash_model.specs.declared.error.FlashError.{FlashError}
use Rattle.sector_map.specs.declared.layout.SectorMap.{SectorMap}
use Rattle.sector_map.specs.declared.layout.Side.TheVariants.{Primary}
use Rattle.reports.specs.declared.table.Table.{Table}
use Rattle.set_log.specs.Log.{state_of}
use Rattle.set_log.specs.declared.state.RecordKind.TheVariants as log
use Rattle.set_log.specs.declared.state.State.{State}
use Rattle.common.specs.Masks.{is_member}
use Rattle.swap_scratch.specs.Swap.{steps_done, steps_in_all}
use Rattle.machine.specs.Device.{DeviceState}
use Rattle.upload.specs.View.{view}
use Rattle.flash_contents.specs.Holding.{AreSettled, IsSwapped, Stands}
use Rattle.flash_contents.specs.Passing.{IsSwappingSome, IsUpgraded, IsUpgrading, reply_of}
use Rattle.machine.specs.Boots.{IsDecision}
use Rattle.flash_contents.specs.Reading.{CanRead, IsFoundAgain}
use Rattle.flash_contents.specs.Wear.{IsResumed, IsSetFound, IsSetOf}
use Rattle.flash_contents.specs.declared.finding.Finding.{Finding}
use Rattle.flash_contents.specs.declared.finding.Finding.TheVariants.{Damaged, Decided, Invalid}
use Rattle.decision.specs.Found.{HasTable}
use Rattle.machine.specs.declared.reply.Reply.{Reply}
use Rattle.boot_core.specs.Journal.{AsksToBoot, LogsKind, is_moving}
use Rattle.boot_core.specs.BootEnds.{BootEnds, Passes}
use Rattle.boot_core.specs.Found.{IsSwapAloneFor, IsToldAgain, StartsFound}
use Rattle.boot_core.specs.Moving.{moved_parts}

-- If the decision is found again, the log says that its set is swapped.
abbrev pub IsSettleRecorded : SectorMap → State → Chip → Finding → Type 0
IsSettleRecorded map state chip (Decided table report) =
    state_of map chip ≡ Some (record state { kind = log.Settle })
IsSettleRecorded map state chip (Damaged i) = Unit {0}
IsSettleRecorded map state chip Invalid = Unit {0}

-- What is found is of the set of the record and what the primary slots begin with, or says why no
-- decision is found. If none is found, only the swap is written.
pub record IsFoundSwapped (map : SectorMap) (state : State) (old new : Chip) (finding : Finding)
    : Type 0 where
  pub set : IsSetFound state.mask finding
  pub told : IsToldAgain (view map new) state.mask state.floors finding
  pub alone : IsSwapAloneFor map state.mask old new finding
  pub starts : StartsFound (view map new) finding

-- The set of a record is swapped, and this is found.
pub record IsSwapDone (map : SectorMap) (state : State) (old new : Chip) (finding : Finding)
    : Type 0 where
  pub ok : (s : DeviceState) (table : Table)
      → IsSwappingSome map old s table state.mask state.permanent
      → IsFoundAgain s state.mask finding
      × IsSwapped (view map new) s table log.Settle state.mask state.permanent
  -- If a decision is found, the log says so.
  pub recorded : IsSettleRecorded map state new finding
  -- The finding is the decision that the state of the device led to, with a row for each image.
  pub found : (s : DeviceState) (table : Table) (permanent : Bool)
      → CanRead (view map new) s state.mask state.floors
      → IsDecision s table state.mask permanent → IsFoundAgain s state.mask finding
  pub rows : HasTable map.images finding
  pub tells : IsFoundSwapped map state old new finding
  -- At most, a sector is erased for each step that was left, and one more.
  pub erases : (s : DeviceState) (table : Table) (permanent : Bool)
      → IsSwappingSome map old s table state.mask permanent
      → new.erases + steps_done map old Primary state.mask
      ≤ old.erases + steps_in_all map old Primary state.mask + 1

-- From Swap to Settle: a call finishes the swap of the set of a record, finds the decision again,
-- and records that.
pub record SwapsForth (map : SectorMap) (state : State) (old new : Chip)
    (result : Result Finding FlashError) : Type 0 where
  -- However it ends, the upgrade is under way.
  pub passes : Passes map (moved_parts (is_member state.mask)) old new
      ((s : DeviceState) (table : Table)
      → IsSwappingSome map old s table state.mask state.permanent
      → IsUpgrading map new s table state.mask state.permanent)
      (IsSwapDone map state old new) result
  pub open passes use *
  -- On any flash the log says so too.
  pub moving : LogsKind is_moving (state_of map new)
  -- It asks a journal for no more than room to boot, or gets a step further.
  pub journal : AsksToBoot map state old new

-- The upgrade of a record is done, by what is found.
pub record IsSwapFinished (map : SectorMap) (state : State) (left : ℕ) (old new : Chip)
    (finding : Finding) : Type 0 where
  pub ok : (s : DeviceState) (table : Table)
      → IsSwappingSome map old s table state.mask state.permanent
      → IsFoundAgain s state.mask finding
      × IsUpgraded left (view map new) s state.mask state.permanent
  pub erases : (s : DeviceState) (table : Table) (permanent : Bool)
      → IsSwappingSome map old s table state.mask permanent
      → IsResumed map old new Primary state.mask
  pub tells : IsFoundSwapped map state old new finding

-- From Swap on: a call finishes the swap, finds the decision again, and takes its set, on trial or
-- permanent.
pub record FinishesSwap (map : SectorMap) (state : State) (left : ℕ) (old new : Chip)
    (result : Result Finding FlashError) : Type 0 where
  -- However it ends, the upgrade is under way, or is done.
  pub passes : Passes map (moved_parts (is_member state.mask)) old new
      ((s : DeviceState) (table : Table)
      → IsSwappingSome map old s table state.mask state.permanent
      → IsUpgrading map new s table state.mask state.permanent
      ⊎ IsUpgraded left (view map new) s state.mask state.permanent)
      (IsSwapFinished map state left old new) result
  pub open passes use *
  -- On any flash, the log says that it is under way, or the set is settled.
  pub settles : LogsKind is_moving (state_of map new)
      ⊎ AreSettled (view map new) state.mask state.permanent
  -- It asks a journal for no more than room to boot, or gets a step further.
  pub journal : AsksToBoot map state old new

-- A boot from a record Swap finishes the upgrade. If the decision isn't found again, the reply says
-- why, and only the swap is written.
pub record BootsFromSwap (map : SectorMap) (state : State) (left : ℕ) (old new : Chip)
    (result : Result Reply FlashError) : Type 0 where
  pub boot : BootEnds map (is_member state.mask) (left + 1) (Stands map old)
      (λ reply. (s : DeviceState) → Stands map old s
      → IsResumed map old new Primary state.mask × IsSetOf state.mask reply) old new result
  pub stops : IfOk result (λ reply. (finding : Finding) (permanent : Bool)
      → reply ≡ reply_of finding permanent
      → IsToldAgain (view map new) state.mask state.floors finding
      × IsSwapAloneFor map state.mask old new finding)
  -- It asks a journal for no more than room to boot, or gets a step further.
  pub journal : AsksToBoot map state old new
