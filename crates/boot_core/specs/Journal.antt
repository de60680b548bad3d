-- How many bytes a boot asks a journal for before it gets a step further.
use Rattle.std.specs.Prelude.{◌≡◌, ◌≢◌, ◌⊎◌, ℕ, ◌+◌, ◌<◌, ◌≤◌, Bool, true, false, Option, Some, is_some}
use Rattle.flash_model.specs.Chip.{Chip}
use Rattle.sector_map.specs.declared.layout.SectorMap.{SectorMap}
use Rattle.sector_map.specs.declared.layout.Side.{Side}
use Rattle.sector_map.specs.declared.layout.Side.TheVariants.{Primary, Secondary}
use Rattle.sector_map.specs.Map.{Keeps}
use Rattle.sector_map.specs.Part.{Log, only}
use Rattle.common.specs.Masks.{is_member}
use Rattle.set_log.specs.Log.{state_of}
use Rattle.set_log.specs.declared.state.RecordKind.{RecordKind}
use Rattle.set_log.specs.declared.state.RecordKind.TheVariants as log
use Rattle.set_log.specs.declared.state.State.{State}
use Rattle.swap_scratch.specs.Steps.{journal_of_step}
use Rattle.swap_scratch.specs.Swap.{steps_done}
use Rattle.upload.specs.Steady.{request_in}
use Rattle.upload.specs.View.{view}
use Rattle.flash_contents.specs.Holding.{AreSettled}

-- A journal with this room holds a step of a swap. It also holds what a boot writes between two
-- records without a swap: at most 92 bytes for each of eight images, and 120 for a record.
pub record IsRoomToBoot (map : SectorMap) (room : ℕ) : Type 0 where
  pub step : journal_of_step map ≤ room
  pub settle : 856 ≤ room

-- The trailers of this side count the steps of the swap that a record of this kind says is under way.
abbrev pub CountsOn : RecordKind → Side → Type 0
CountsOn log.Swap Primary = Unit
CountsOn log.Back Secondary = Unit
CountsOn other side = ⊥

-- A boot that found this record in the log has got a step further.
pub data GetsFurther (map : SectorMap) (state : State) (old new : Chip) : Type 0 where
  -- It counted a step of the swap of the record's set.
  CountsStep : (side : Side) → CountsOn state.kind side
      → steps_done map old side state.mask < steps_done map new side state.mask
      → GetsFurther map state old new
  -- It recorded another state.
  RecordsOther : (state_of map new ≡ Some state → ⊥) → GetsFurther map state old new
  -- It took a set that was requested, and settled its trailers. At most its last record is left.
  SettlesSet : (set : ℕ) (permanent : Bool) → set ≢ 0
      → ((i : ℕ) → is_member set i ≡ true → is_some (request_in (view map old) i) ≡ true)
      → AreSettled (view map new) set permanent → GetsFurther map state old new

-- A boot that found this record asks a journal for no more than room to boot, or gets a step further.
abbrev pub AsksToBoot : SectorMap → State → Chip → Chip → Type 0
AsksToBoot map state old new = (room : ℕ) → IsRoomToBoot map room
    → (new.journaled ≤ old.journaled + room) ⊎ GetsFurther map state old new

-- ---- from one record to the next

-- The log has a record of a kind that passes this test.
abbrev pub LogsKind : (RecordKind → Bool) → Option State → Type 0
LogsKind test recorded = (now : State) × (recorded ≡ Some now) × (test now.kind ≡ true)

-- The swap of an upgrade or a revert is under way, or is done and not settled.
abbrev pub is_moving : RecordKind → Bool
is_moving log.Steady = false
is_moving log.Trial = false
is_moving other = true

-- The device is at rest, or a set is on trial.
abbrev pub is_resting : RecordKind → Bool
is_resting log.Steady = true
is_resting log.Trial = true
is_resting other = false

-- A set is swapped back and not settled, or the device is at rest.
abbrev pub is_returned : RecordKind → Bool
is_returned log.BackSettle = true
is_returned log.Steady = true
is_returned other = false

-- A revert is under way, or the device is at rest.
abbrev pub is_reverting : RecordKind → Bool
is_reverting log.Back = true
is_reverting log.BackSettle = true
is_reverting log.Steady = true
is_reverting other = false

-- How far a boot got that begins an upgrade of images which pass a test. It asked a journal for no
-- more than `most` bytes. Or its swap is recorded, or its set is settled.
pub data Begins (map : SectorMap) (asked : ℕ → Bool) (most : ℕ) (old new : Chip) : Type 0 where
  AsksAtMost : new.journaled ≤ old.journaled + most → Begins map asked most old new
  RecordsSwap : LogsKind is_moving (state_of map new) → Begins map asked most old new
  SettlesAsked : (set : ℕ) (permanent : Bool) → set ≢ 0
      → ((i : ℕ) → is_member set i ≡ true → asked i ≡ true)
      → AreSettled (view map new) set permanent → Begins map asked most old new

-- After a swap the log says so, as before. Or its set is settled, and the log says a later state.
abbrev pub SettlesOn : SectorMap → State → Chip → Type 0
SettlesOn map state new = (state_of map new ≡ Some state)
    ⊎ LogsKind is_resting (state_of map new) × AreSettled (view map new) state.mask state.permanent

-- A set that was swapped back is recorded so. Or at most that record was asked for, and only the log
-- is written.
abbrev pub ReturnsOn : SectorMap → State → Chip → Chip → Type 0
ReturnsOn map state old new = LogsKind is_returned (state_of map new)
    ⊎ (state_of map new ≡ Some state) × Keeps map (only Log) old new
    × (new.journaled ≤ old.journaled + 120)
