-- What a boot leaves of a trial that is over, can't revert or is tried again.
use Rattle.std.specs.Prelude.{◌≡◌, ◌⊎◌, ℕ, ◌+◌, ◌≤◌, true, false, List, Ok, slice_index}
use Rattle.flash_model.specs.Chip.{Chip}
use Rattle.sector_map.specs.declared.layout.SectorMap.{SectorMap}
use Rattle.sector_map.specs.declared.layout.Side.TheVariants.{Secondary}
use Rattle.set_log.specs.States.{Appends}
use Rattle.set_log.specs.declared.state.RecordKind.TheVariants.{Steady}
use Rattle.set_log.specs.declared.state.State.{State}
use Rattle.machine.specs.Device.{DeviceState}
use Rattle.upload.specs.View.{view}
use Rattle.flash_contents.specs.Reading.{AreSetOk, RunsAt}
use Rattle.flash_contents.specs.Starting.{IsLost}
use Rattle.machine.specs.States.{IsRaised}
use Rattle.machine.specs.declared.error.Fault.TheVariants.{RunningDamaged}
use Rattle.machine.specs.declared.reply.Reply.{Reply}
use Rattle.machine.specs.declared.reply.Reply.TheVariants.{Refused}
use Rattle.decision.specs.Found.{IsLowestAt}

-- The record that a trial is over, with these floors: the device is at rest.
abbrev pub record_over : State → List ℕ → State
record_over state floors = record {
  kind = Steady;
  mask = 0;
  permanent = false;
  left = 0;
  sequence = state.sequence;
  floors = floors;
}

-- Floors are raised to the security counters of the running images. Floors past the last image
-- stay.
pub record AreFloorsRaised (map : SectorMap) (chip : Chip) (old new : List ℕ) : Type 0 where
  pub raised : (s : DeviceState) → RunsAt (view map chip) s → s.floors ≡ old
      → IsRaised s.images s.running s.floors new
  pub rest : (i : ℕ) → map.images ≤ i → slice_index new i ≡ slice_index old i

-- The record that a trial is over is appended, with raised floors. Nothing else is written.
pub record IsRecordedOver (map : SectorMap) (state : State) (old new : Chip) : Type 0 where
  pub floors : List ℕ
  pub raised : AreFloorsRaised map old state.floors floors
  pub appended : Appends map (record_over state floors) old new {T = Unit} (Ok tt)

-- A set that isn't confirmed can't revert, since an old image isn't intact, and can't run either: the
-- boot is refused for the lowest running image that isn't intact. Nothing is written.
pub record IsStuck (map : SectorMap) (state : State) (old new : Chip) (reply : Reply) : Type 0 where
  pub same : new ≡ old
  pub unconfirmed : AreSetOk (view map old) state.mask false
  pub lost : (i : ℕ) × IsLost (view map old) state.mask Secondary i
  pub lowest : (i : ℕ) × IsLowestAt (view map old) 0 i × (reply ≡ Refused (RunningDamaged i))

-- The trial is recorded as over, and each image of its set was confirmed.
pub record IsOverAlone (map : SectorMap) (state : State) (old new : Chip) : Type 0 where
  pub confirmed : AreSetOk (view map old) state.mask true
  pub recorded : IsRecordedOver map state old new

-- What a boot from a trial leaves that takes nothing or is refused.
abbrev pub IsIdleTrial : SectorMap → State → Chip → Chip → Reply → Type 0
IsIdleTrial map state old new reply =
    IsOverAlone map state old new ⊎ IsStuck map state old new reply

-- A set is tried again: a boot that was left is recorded as used, and nothing else is written. If
-- none was left, the set stays on trial because an old image isn't intact, and nothing is written.
abbrev pub IsTriedAgain : SectorMap → State → Chip → Chip → ℕ → ℕ → Type 0
IsTriedAgain map state old new set left = (set ≡ state.mask)
    × ((state.left ≡ left + 1)
    × Appends map (record state { left = left; permanent = false }) old new {T = Unit} (Ok tt)
    ⊎ (state.left ≡ 0) × (left ≡ 0) × (new ≡ old)
    × ((i : ℕ) × IsLost (view map old) state.mask Secondary i))
