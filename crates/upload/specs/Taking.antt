-- When a manifest may be accepted, and what accepting it leaves on the flash.
use Rattle.std.specs.Prelude.{◌≡◌, ◌⊎◌, ℕ, ◌<◌, ◌≤◌, List, [], Option, Some, Result, Ok, Err}
use Rattle.flash_model.specs.declared.error.FlashError.TheVariants as flash
use Rattle.sector_map.specs.declared.layout.SectorMap.{SectorMap}
use Rattle.set_log.specs.declared.state.State.{State}
use Rattle.manifest.specs.declared.manifest.Component.{Component}
use Rattle.machine.specs.declared.upload_error.UploadError.{UploadError}
use Rattle.machine.specs.declared.upload_error.UploadError.TheVariants as no
use Rattle.upload.specs.declared.sessions.Upload.{Upload}
use Rattle.upload.specs.View.{View}
use Rattle.machine.specs.Device.{DeviceState, Machine}
use Rattle.upload.specs.Steady.{IsSteadyAt}
use Rattle.sector_map.specs.declared.layout.Side.TheVariants.{Secondary}
use Rattle.trailer.specs.Fields.{erased_fields}
use Rattle.upload.specs.Sessions.{AllOpenAt, IsUpAt, IsWritten, upload_at}
use Rattle.upload.specs.Withdrawal.{IsKeptOrGone}
use Rattle.machine.specs.Accepted.{AllFit, IsAcceptCut, accepted, latest}
use Rattle.upload.specs.Accepted.{AllFollowAt, OpenedAt}

-- The log has this state, whose sequence number isn't above the manifest's.
pub record IsNewer (w : View) (state : State) (sequence : ℕ) : Type 0 where
  pub read : w.log ≡ Some state
  pub newer : state.sequence ≤ sequence

-- A manifest may be accepted, and the log has this state.
pub record MayTake (map : SectorMap) (w : View) (state : State) (sequence : ℕ)
    (cs : List Component) : Type 0 where
  pub newer : IsNewer w state sequence
  pub fit : AllFit map cs
  pub follow : AllFollowAt w cs

-- The first check of a manifest that fails. The checks only read, so none ends in a power cut.
abbrev pub Refuses : SectorMap → View → ℕ → List Component → UploadError → Type 0
Refuses map w sequence cs no.OldSequence =
    (state : State) × (w.log ≡ Some state) × (sequence < state.sequence)
Refuses map w sequence cs no.TooBig =
    (state : State) × IsNewer w state sequence × (AllFit map cs → ⊥)
Refuses map w sequence cs no.WrongPrecursor =
    (state : State) × IsNewer w state sequence × AllFit map cs × (AllFollowAt w cs → ⊥)
Refuses map w sequence cs (no.Flash flash.Off) = Unit
Refuses map w sequence cs other = ⊥

-- A manifest is accepted: its sequence number is stored, each listed image has an erased slot and
-- trailer and a new upload. Uploads of other images go on.
pub record IsTaken (old new : View) (told tnew : List (Option Upload)) (sequence : ℕ)
    (cs : List Component) : Type 0 where
  pub log : (state : State) → old.log ≡ Some state
      → new.log ≡ Some (record state { sequence = sequence })
  pub empty : (j : ℕ) (c : Component) → latest cs j ≡ Some c
      → (new.trailer j Secondary ≡ erased_fields) × IsWritten (new.slot j Secondary) []
  pub table : (j : ℕ) → OpenedAt (upload_at tnew j) (upload_at told j) (latest cs j)
  pub opens : AllOpenAt old told → AllOpenAt new tnew
  pub steps : (m : Machine) → IsUpAt old told m → IsUpAt new tnew (accepted m sequence cs)

-- Nothing changed.
pub record IsUnchanged (old new : View) (told tnew : List (Option Upload)) : Type 0 where
  pub flash : new ≡ old
  pub table : tnew ≡ told

-- If the flash held a state of the device, it holds one that a power cut may leave.
abbrev pub CutsAccept : View → View → ℕ → List Component → Type 0
CutsAccept old new sequence cs = (s : DeviceState) → IsSteadyAt old s
    → (next : DeviceState) × IsAcceptCut s sequence cs next × IsSteadyAt new next

-- For any contents of the flash: the log has the old sequence number or the new one, and each
-- request is unchanged or withdrawn. Unless the log has the new number, no secondary slot or
-- trailer changed.
pub record LeavesAccept (old new : View) (sequence : ℕ) : Type 0 where
  pub log : (state : State) → old.log ≡ Some state
      → (new.log ≡ old.log) ⊎ (new.log ≡ Some (record state { sequence = sequence }))
  pub each : (j : ℕ) → IsKeptOrGone old new j
  pub first : (state : State) → old.log ≡ Some state
      → (new.log ≡ Some (record state { sequence = sequence }))
      ⊎ ((j : ℕ) → (new.slot j Secondary ≡ old.slot j Secondary)
      × (new.trailer j Secondary ≡ old.trailer j Secondary))

-- What accepting a manifest leaves on the flash and in the table.
abbrev pub EndsAccept : SectorMap → View → View → List (Option Upload) → List (Option Upload) → ℕ
    → List Component → Result Unit UploadError → Type 0
EndsAccept map old new told tnew sequence cs (Ok done) =
    ((state : State) × MayTake map old state sequence cs) × IsTaken old new told tnew sequence cs
EndsAccept map old new told tnew sequence cs (Err no.OldSequence) =
    Refuses map old sequence cs no.OldSequence × IsUnchanged old new told tnew
EndsAccept map old new told tnew sequence cs (Err no.TooBig) =
    Refuses map old sequence cs no.TooBig × IsUnchanged old new told tnew
EndsAccept map old new told tnew sequence cs (Err no.WrongPrecursor) =
    Refuses map old sequence cs no.WrongPrecursor × IsUnchanged old new told tnew
EndsAccept map old new told tnew sequence cs (Err (no.Flash flash.Cut)) =
    ((state : State) × MayTake map old state sequence cs) × LeavesAccept old new sequence
    × CutsAccept old new sequence cs
EndsAccept map old new told tnew sequence cs (Err (no.Flash flash.Off)) = new ≡ old
EndsAccept map old new told tnew sequence cs other = ⊥
