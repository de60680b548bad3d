-- Contracts of a boot from a record Steady: one record for each function.
use Rattle.std.specs.Prelude.{◌≡◌, ◌⊎◌, ◌+◌, ◌*◌, ◌≤◌, ℕ, Bool, Some, Result, IfOk, is_some}
use Rattle.flash_model.specs.Chip.{Chip}
use Rattle.flash_model.specs.declared.error.FlashError.{FlashError}
use Rattle.sector_map.specs.declared.layout.SectorMap.{SectorMap}
use Rattle.sector_map.specs.declared.layout.Side.TheVariants.{Primary}
use Rattle.reports.specs.declared.table.Table.{Table}
use Rattle.set_log.specs.Log.{state_of}
use Rattle.set_log.specs.declared.state.RecordKind.TheVariants as log
use Rattle.set_log.specs.declared.state.State.{State}
use Rattle.machine.specs.Device.{DeviceState}
use Rattle.upload.specs.Steady.{IsSteadyAt, request_in}
use Rattle.upload.specs.View.{view}
use Rattle.common.specs.Masks.{is_member}
use Rattle.machine.specs.Boots.{IsDecision, IsChosen}
use Rattle.flash_contents.specs.Passing.{IsSwappingSome}
use Rattle.flash_contents.specs.Wear.{members}
use Rattle.machine.specs.declared.reply.Reply.{Reply}
use Rattle.boot_core.specs.Journal.{Begins}
use Rattle.boot_core.specs.BootEnds.{BootEnds, Passes}
use Rattle.boot_core.specs.Moving.{may_move, moved_parts}
use Rattle.boot_core.specs.Wear.{AreMeasured, DoesNothing, IsAfresh, TriesNone}

-- The swap of the decision has begun.
pub record IsSwapBegun (map : SectorMap) (state : State) (mask : ℕ) (permanent : Bool)
    (old new : Chip) (now : State) : Type 0 where
  pub ok : (s : DeviceState) (table : Table)
      → IsSteadyAt (view map old) s → IsDecision s table mask permanent
      → IsSwappingSome map new s table mask permanent
  -- The log says so in the record `now`.
  pub recorded : state_of map new ≡ Some now
  pub is : now ≡ record state {
    kind = log.Swap;
    mask = mask;
    permanent = permanent;
    left = 0;
  }
  -- The primary trailers of the set say how many bytes the swap moves.
  pub moves : AreMeasured (view map old) (view map new) Primary mask
  -- At most, a sector is erased for each image of the set, and one for the record.
  pub erases : new.erases ≤ old.erases + members map mask + 1

-- From Steady to Swap: a call begins the swap of a set.
pub record BeginsSwap (map : SectorMap) (state : State) (mask : ℕ) (permanent : Bool)
    (old new : Chip) (result : Result State FlashError) : Type 0 where
  -- However it ends, the device is at rest, or the swap of the decision has begun.
  pub passes : Passes map (moved_parts (is_member mask)) old new
      ((s : DeviceState) (table : Table)
      → IsSteadyAt (view map old) s → IsDecision s table mask permanent
      → IsSteadyAt (view map new) s ⊎ IsSwappingSome map new s table mask permanent)
      (IsSwapBegun map state mask permanent old new) result
  pub open passes use *
  -- It asks a journal for at most 32 bytes for each image of the set, and 120.
  pub journal : new.journaled ≤ old.journaled + (32 * members map mask + 120)

-- The device is at rest, and the set is the one that is chosen.
abbrev pub HasChosen : SectorMap → ℕ → Chip → DeviceState → Type 0
HasChosen map mask chip s =
    (table : Table) × IsSteadyAt (view map chip) s × IsChosen s table mask

-- A chosen set is taken, and the reply says so.
pub record Upgrades (map : SectorMap) (mask left : ℕ) (old new : Chip)
    (result : Result Reply FlashError) : Type 0 where
  pub boot : BootEnds map (is_member mask) (left + 1) (HasChosen map mask old)
      (λ reply. (s : DeviceState) → HasChosen map mask old s → IsAfresh map old new 3 reply)
      old new result
  pub some : IfOk result (λ reply. (s : DeviceState) → HasChosen map mask old s
      → DoesNothing reply → ⊥)
  pub fresh : IfOk result TriesNone
  -- It asks a journal for at most 376 bytes before its swap is recorded.
  pub begins : Begins map (is_member mask) 376 old new

-- A boot from a record Steady makes the decision, and takes a chosen set. If none is chosen, or the
-- boot is refused, nothing is written. That holds on any flash whose log says that the device is at
-- rest.
pub record BootsFromSteady (map : SectorMap) (left : ℕ) (old new : Chip)
    (result : Result Reply FlashError) : Type 0 where
  pub boot : BootEnds map (may_move map old) (left + 1) (IsSteadyAt (view map old))
      (λ reply. (s : DeviceState) → IsSteadyAt (view map old) s → IsAfresh map old new 3 reply)
      old new result
  pub idle : IfOk result (λ reply. (state : State) → state_of map old ≡ Some state
      → state.kind ≡ log.Steady → DoesNothing reply → new ≡ old)
  -- No set is tried again.
  pub fresh : IfOk result TriesNone
  -- It asks a journal for at most 376 bytes before the swap of requested images is recorded.
  pub begins : Begins map (λ i. is_some (request_in (view map old) i)) 376 old new
