-- Contracts of the calls that check a manifest: one record for each call. None of them writes.
use Rattle.std.specs.Prelude.{◌≡◌, ◌≢◌, ◌↔◌, Bool, true, false, List, None, Some, Result, IfErr, IfOk, IsErrOf, IsTrue}
use Rattle.flash_model.specs.declared.error.FlashError.{FlashError}
use Rattle.flash_model.specs.declared.error.FlashError.TheVariants.{Off}
use Rattle.flash_model.specs.Chip.{Chip, Ends}
use Rattle.sector_map.specs.declared.layout.SectorMap.{SectorMap}
use Rattle.sector_map.specs.declared.layout.Side.TheVariants.{Primary}
use Rattle.sector_map.specs.Part.{Slot}
use Rattle.sector_map.specs.Map.{IsLaidOut, part_of}
use Rattle.set_log.specs.declared.state.State.{State}
use Rattle.set_log.specs.Log.{state_of}
use Rattle.set_log.specs.Record as format
use Rattle.manifest.specs.declared.manifest.Component.{Component}
use Rattle.manifest.specs.declared.manifest.Manifest.{Manifest}
use Rattle.machine.specs.declared.upload_error.UploadError.{UploadError}
use Rattle.machine.specs.declared.upload_error.UploadError.TheVariants.{Flash}
use Rattle.upload.specs.View.{view}
use Rattle.upload.specs.Ending.{EndsUpload}
use Rattle.upload.specs.Accepted.{AllFollowAt, AreThere, FrontHasDigest}
use Rattle.upload.specs.Taking.{MayTake, Refuses}

-- A call returns whether the running image is the one that a component requires, if it requires
-- one.
pub record ReadsPrecursor (map : SectorMap) (component : Component) (old new : Chip)
    (result : Result Bool FlashError) : Type 0 where
  pub same : new ≡ old
  pub ok : IfOk result (λ yes. IsTrue yes
      ↔ FrontHasDigest (part_of map old (Slot component.image Primary)) component.precursor)
  pub ends : Ends result old new

-- A call returns whether the running images are those that the components require.
pub record ReadsPrecursors (map : SectorMap) (cs : List Component) (old new : Chip)
    (result : Result Bool FlashError) : Type 0 where
  pub same : new ≡ old
  pub ok : IfOk result (λ yes. IsTrue yes ↔ AllFollowAt (view map old) cs)
  pub ends : Ends result old new

-- A call returns the state of the log.
pub record ReadsState (map : SectorMap) (old new : Chip) (result : Result State FlashError)
    : Type 0 where
  pub same : new ≡ old
  pub ok : IfOk result (λ state. state_of map old ≡ Some state)
  -- A state of the log fits the table of records.
  pub fits : (state : State) → state_of map old ≡ Some state
      → format.fits map.images state ≡ true
  -- If the flash is off, that is the result.
  pub off : old.is_on ≡ false → IsErrOf result Off
  pub ends : Ends result old new

-- A manifest with these components can be checked: the log has a state, and each component names an
-- image of the map.
pub record CanJudge (map : SectorMap) (cs : List Component) (chip : Chip) : Type 0 where
  pub laid_out : IsLaidOut map chip
  pub has_state : state_of map chip ≢ None
  pub there : AreThere map cs

-- A call returns the state of the log if a manifest may be accepted.
pub record JudgesManifest (map : SectorMap) (manifest : Manifest) (old new : Chip)
    (result : Result State UploadError) : Type 0 where
  pub same : new ≡ old
  pub ok : IfOk result (λ state. MayTake map (view map old) state
      manifest.sequence manifest.components.items)
  -- A state of the log fits the table of records.
  pub fits : (state : State) → state_of map old ≡ Some state
      → format.fits map.images state ≡ true
  -- Otherwise the first check that fails is returned.
  pub refused : IfErr result (Refuses map (view map old)
      manifest.sequence manifest.components.items)
  -- If the flash is off, that is the result.
  pub off : old.is_on ≡ false → IsErrOf result (Flash Off)
  pub ends : EndsUpload result old new
