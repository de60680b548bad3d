-- Contracts of a boot from a record Settle: one record for each function.
use Rattle.std.specs.Prelude.{◌≡◌, ◌≢◌, ◌⊎◌, ◌+◌, ◌*◌, ◌≤◌, ℕ, Bool, true, false, List, Option, Some, None}
use Rattle.std.specs.Prelude.{Result, OnOk, IfOk}
use Rattle.common.specs.Limits.{MOST_BOOTS_LEFT}
use Rattle.flash_model.specs.Chip.{Chip, Ends}
use Rattle.flash_model.specs.declared.error.FlashError.{FlashError}
use Rattle.sector_map.specs.Map.{IsLaidOut, Keeps}
use Rattle.sector_map.specs.Part.{Log, only, trailers_in}
use Rattle.common.specs.Masks.{is_member}
use Rattle.sector_map.specs.declared.layout.SectorMap.{SectorMap}
use Rattle.reports.specs.declared.table.Table.{Table}
use Rattle.trailer.specs.Settled.{is_confirmed}
use Rattle.trailer.specs.declared.kinds.Settling.{Settling}
use Rattle.set_log.specs.Log.{state_of}
use Rattle.set_log.specs.declared.state.RecordKind.TheVariants as log
use Rattle.set_log.specs.declared.state.State.{State}
use Rattle.swap_scratch.specs.Swap.{share}
use Rattle.machine.specs.Device.{DeviceState}
use Rattle.upload.specs.View.{view}
use Rattle.machine.specs.Boots.{IsDecision}
use Rattle.flash_contents.specs.Holding.{AreSettled, IsSettledAt, IsSwapped, Stands}
use Rattle.flash_contents.specs.Passing.{IsTakenAt, IsUpgraded, reply_of}
use Rattle.flash_contents.specs.Reading.{CanRead, IsFoundAgain}
use Rattle.flash_contents.specs.Wear.{IsSettling, members, IsSetFound, IsSetOf}
use Rattle.flash_contents.specs.declared.finding.Finding.{Finding}
use Rattle.machine.specs.declared.reply.Reply.{Reply}
use Rattle.boot_core.specs.Journal.{AsksToBoot, LogsKind, SettlesOn, is_resting}
use Rattle.boot_core.specs.BootEnds.{BootEnds, Passes}
use Rattle.decision.specs.Found.{HasTable}
use Rattle.boot_core.specs.Found.{IsKeptFor, IsToldAgain, StartsFound}
use Rattle.boot_core.specs.Moving.{settled_parts}

-- In Settle or BackSettle: a call settles the trailers of an image if the image is in the mask.
pub record SettlesMember (map : SectorMap) (mask image : ℕ) (settling : Settling)
    (old new : Chip) (result : Result Unit FlashError) : Type 0 where
  -- Only the trailers of the mask are written.
  pub outside : Keeps map (trailers_in mask) old new
  -- However the call ends, each other image that was settled so stays so.
  pub others : (i : ℕ) → i ≢ image → IsSettledAt (view map old) i (is_confirmed settling)
      → IsSettledAt (view map new) i (is_confirmed settling)
  -- If the call succeeds, this image is settled.
  pub ok : OnOk result (is_member mask image ≡ true
      → IsSettledAt (view map new) image (is_confirmed settling))
  -- Each of its two trailers is erased at most once.
  pub erases : OnOk result (new.erases ≤ old.erases + 2 * share mask (λ i. 1) image)
  -- It asks a journal for at most 92 bytes, and for none if the image isn't in the mask.
  pub journal : new.journaled ≤ old.journaled + 92 * share mask (λ i. 1) image
  pub ends : Ends result old new

-- In Settle or BackSettle: a call settles the trailers of a set.
pub record SettlesSet (map : SectorMap) (mask : ℕ) (settling : Settling) (old new : Chip)
    (result : Result Unit FlashError) : Type 0 where
  -- Only the trailers of the set are written.
  pub outside : Keeps map (trailers_in mask) old new
  -- If the call succeeds, the set is settled.
  pub ok : OnOk result (AreSettled (view map new) mask (is_confirmed settling))
  -- Each of its trailers is erased at most once.
  pub erases : OnOk result (new.erases ≤ old.erases + 2 * members map mask)
  -- It asks a journal for at most 92 bytes for each image of the set.
  pub journal : new.journaled ≤ old.journaled + 92 * members map mask
  pub ends : Ends result old new

-- The log says that a set is on trial, and nothing of permanence.
abbrev pub IsTrialLogged : Option State → Type 0
IsTrialLogged None = ⊥
IsTrialLogged (Some state) = (state.kind ≡ log.Trial) × (state.permanent ≡ false)

-- From Settle to Trial or Steady: a call records that a set is on trial, with `left` more boots, or
-- permanent, with these floors.
pub record RecordsTaken (map : SectorMap) (permanent : Bool) (left : ℕ) (floors : List ℕ)
    (old new : Chip) (result : Result Unit FlashError) : Type 0 where
  -- Only the log is written.
  pub outside : Keeps map (only Log) old new
  -- However the call ends, the set is swapped and settled as before, or it is taken.
  pub stands : (s : DeviceState) (table : Table) (mask : ℕ)
      → IsSwapped (view map old) s table log.Settle mask permanent
      → AreSettled (view map old) mask permanent
      → IsSwapped (view map new) s table log.Settle mask permanent
      ⊎ IsTakenAt (view map new) s mask permanent left floors
  -- On any flash, the log says what it said before, or that the set is taken.
  pub either : (state_of map new ≡ state_of map old) ⊎ LogsKind is_resting (state_of map new)
  -- If the call succeeds, the set is taken. The record of a trial isn't permanent.
  pub says : OnOk result (permanent ≡ false → IsTrialLogged (state_of map new))
  pub ok : OnOk result ((s : DeviceState) (table : Table) (mask : ℕ)
      → IsSwapped (view map old) s table log.Settle mask permanent
      → AreSettled (view map old) mask permanent
      → IsTakenAt (view map new) s mask permanent left floors)
  pub erases : OnOk result (new.erases ≤ old.erases + 1)
  -- It asks a journal for at most 120 bytes.
  pub journal : new.journaled ≤ old.journaled + 120
  pub ends : Ends result old new

-- The set of a record, which was swapped, is settled and taken: it is on trial or permanent.
pub record IsSetTaken (map : SectorMap) (state : State) (left : ℕ) (floors : List ℕ)
    (old new : Chip) : Type 0 where
  pub ok : (s : DeviceState) (table : Table)
      → IsSwapped (view map old) s table log.Settle state.mask state.permanent
      → IsTakenAt (view map new) s state.mask state.permanent left floors
  pub erases : IsSettling map old new state.mask

-- From Settle to Trial or Steady: a call settles the set of a record and takes it, on trial or
-- permanent.
pub record SettlesAndRecords (map : SectorMap) (state : State) (left : ℕ) (floors : List ℕ)
    (old new : Chip) (result : Result Unit FlashError) : Type 0 where
  -- However it ends, the set is swapped as before, or it is taken.
  pub passes : Passes map (settled_parts state.mask) old new
      ((s : DeviceState) (table : Table)
      → IsSwapped (view map old) s table log.Settle state.mask state.permanent
      → IsSwapped (view map new) s table log.Settle state.mask state.permanent
      ⊎ IsTakenAt (view map new) s state.mask state.permanent left floors)
      (λ done. IsSetTaken map state left floors old new) result
  pub open passes use *
  -- On any flash, the log is as before, or the set is settled.
  pub settles : SettlesOn map state new
  -- It asks a journal for at most 92 bytes for each image of the set, and 120.
  pub journal : new.journaled ≤ old.journaled + (92 * members map state.mask + 120)

-- A set that was swapped can be settled by this finding. If it is tried, it has `left` more boots.
pub record CanSettle (map : SectorMap) (state : State) (left : ℕ) (finding : Finding) (chip : Chip)
    : Type 0 where
  -- The map is laid out on the flash, and the log says that the set is swapped.
  pub laid_out : IsLaidOut map chip
  pub read : state_of map chip ≡ Some state
  pub kind : state.kind ≡ log.Settle
  pub few : left ≤ MOST_BOOTS_LEFT
  -- This was found of the decision, with a row for each image.
  pub found : (s : DeviceState) (table : Table) (permanent : Bool)
      → CanRead (view map chip) s state.mask state.floors → IsDecision s table state.mask permanent
      → IsFoundAgain s state.mask finding
  pub rows : HasTable map.images finding

-- The upgrade of a record, whose set was swapped, is done by what is found. If that is no decision,
-- nothing is written.
pub record IsUpgradeSettled (map : SectorMap) (state : State) (left : ℕ) (old new : Chip)
    (finding : Finding) : Type 0 where
  pub ok : (s : DeviceState) (table : Table)
      → IsSwapped (view map old) s table log.Settle state.mask state.permanent
      → IsFoundAgain s state.mask finding
      × IsUpgraded left (view map new) s state.mask state.permanent
  pub erases : IsSettling map old new state.mask
  pub kept : IsKeptFor old new finding

-- A call finishes such an upgrade.
pub record SettlesUpgrade (map : SectorMap) (state : State) (left : ℕ) (tells : Finding → Type 0)
    (old new : Chip) (result : Result Finding FlashError) : Type 0 where
  -- However it ends, the set is swapped as before, or the upgrade is done.
  pub passes : Passes map (settled_parts state.mask) old new
      ((s : DeviceState) (table : Table)
      → IsSwapped (view map old) s table log.Settle state.mask state.permanent
      → IsSwapped (view map new) s table log.Settle state.mask state.permanent
      ⊎ IsUpgraded left (view map new) s state.mask state.permanent)
      (λ finding. IsUpgradeSettled map state left old new finding × tells finding) result
  pub open passes use *
  -- On any flash, the log is as before, or the set is settled.
  pub settles : SettlesOn map state new
  -- It asks a journal for at most 92 bytes for each image of the set, and 120.
  pub journal : new.journaled ≤ old.journaled + (92 * members map state.mask + 120)

-- From Settle on: a call takes the set, on trial or permanent, if a decision was found. It returns
-- what was found.
abbrev pub SettlesFound : SectorMap → State → ℕ → Finding → Chip → Chip
    → Result Finding FlashError → Type 0
SettlesFound map state left finding old new result =
    SettlesUpgrade map state left (λ answer. answer ≡ finding) old new result

-- From Settle on: a call finds the decision again, and takes its set, on trial or permanent. What
-- is found is of the set of the record and what the primary slots begin with, or says why no
-- decision is found.
abbrev pub FinishesSettle : SectorMap → State → ℕ → Chip → Chip → Result Finding FlashError
    → Type 0
FinishesSettle map state left old new result = SettlesUpgrade map state left
    (λ finding. IsSetFound state.mask finding
    × IsToldAgain (view map old) state.mask state.floors finding
    × StartsFound (view map new) finding) old new result

-- A boot from a record Settle finishes the upgrade. If the decision isn't found again, the reply
-- says why, and nothing is written.
pub record BootsFromSettle (map : SectorMap) (state : State) (left : ℕ) (old new : Chip)
    (result : Result Reply FlashError) : Type 0 where
  pub boot : BootEnds map (is_member state.mask) (left + 1) (Stands map old)
      (λ reply. IsSettling map old new state.mask × IsSetOf state.mask reply) old new result
  pub stops : IfOk result (λ reply. (finding : Finding) (permanent : Bool)
      → reply ≡ reply_of finding permanent
      → IsToldAgain (view map new) state.mask state.floors finding × IsKeptFor old new finding)
  -- It asks a journal for no more than room to boot.
  pub journal : AsksToBoot map state old new
