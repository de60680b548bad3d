-- Whether a device takes uploads, and which refusals come from a manifest.
use Rattle.std.specs.Prelude.{◌≡◌, ◌⊎◌, ℕ, ◌<◌, Bool, true, false, List, length, Option, Some, None, Result, Ok, Err}
use Rattle.flash_model.specs.declared.error.FlashError.TheVariants as flash
use Rattle.manifest.specs.declared.identity.Identity.{Identity}
use Rattle.manifest.specs.declared.manifest.Manifest.{Manifest}
use Rattle.manifest.specs.Fault.{IsRefusal}
use Rattle.manifest.specs.Manifest.{NamesEachOnce, NamesImages}
use Rattle.manifest.specs.declared.error.ManifestError.{ManifestError}
use Rattle.manifest.specs.declared.error.ManifestError.TheVariants as text
use Rattle.common.specs.Masks.{is_member}
use Rattle.set_log.specs.declared.state.State.{State}
use Rattle.set_log.specs.declared.state.RecordKind.{RecordKind}
use Rattle.set_log.specs.declared.state.RecordKind.TheVariants as log
use Rattle.machine.specs.declared.error.Fault.{Fault}
use Rattle.machine.specs.declared.error.Fault.TheVariants as no

-- The log says that a set is on trial.
abbrev pub LogsTrial : Option State → Type 0
LogsTrial recorded = (state : State) × (recorded ≡ Some state) × (state.kind ≡ log.Trial)

-- The log says that a set is on trial, and an image of this number, below `images`, is in it.
pub record LogsTrialOf (images image : ℕ) (recorded : Option State) : Type 0 where
  pub state : State
  pub logged : recorded ≡ Some state
  pub trial : state.kind ≡ log.Trial
  pub there : image < images
  pub member : is_member state.mask image ≡ true

-- The log says that the flash is at rest: no set is on trial, and no boot was interrupted.
abbrev pub LogsRest : Option State → Type 0
LogsRest recorded = (state : State) × (recorded ≡ Some state) × (state.kind ≡ log.Steady)

-- The log says that a boot was interrupted in an upgrade or a revert. Only a boot goes on from there.
abbrev pub LogsBoot : Option State → Type 0
LogsBoot recorded = (state : State) × (recorded ≡ Some state)
    × (state.kind ≡ log.Steady → ⊥) × (state.kind ≡ log.Trial → ⊥)

-- Why a booted device takes no uploads, by the kind of the record in its log.
abbrev pub kind_refusal : RecordKind → Option Fault
kind_refusal log.Steady = None
kind_refusal log.Trial = Some no.OnTrial
kind_refusal log.Swap = Some no.NotBooted
kind_refusal log.Settle = Some no.NotBooted
kind_refusal log.Back = Some no.NotBooted
kind_refusal log.BackSettle = Some no.NotBooted

-- Why a booted device takes no uploads, by its log.
abbrev pub log_refusal : Option State → Option Fault
log_refusal None = Some no.NotProvisioned
log_refusal (Some state) = kind_refusal state.kind

-- Whether uploads are taken, by the first check that fails. They are taken if the device is booted
-- and the log has a state at rest. A device isn't booted either if its log says that a boot was
-- interrupted, whatever the caller saved.
abbrev pub IsReadiness : Result Unit Fault → Bool → Option State → Bool → Type 0
IsReadiness (Ok done) up recorded on = (up ≡ true) × LogsRest recorded
IsReadiness (Err no.NotBooted) up recorded on = (up ≡ false) ⊎ ((up ≡ true) × LogsBoot recorded)
IsReadiness (Err no.OnTrial) up recorded on = (up ≡ true) × LogsTrial recorded
IsReadiness (Err no.NotProvisioned) up recorded on = (up ≡ true) × (recorded ≡ None)
IsReadiness (Err (no.Flash flash.Off)) up recorded on = (up ≡ true) × (on ≡ false)
IsReadiness other up recorded on = ⊥

-- The device's fault for the refusal of a text. NoMemory is a fault of its own.
abbrev pub text_fault : ManifestError → Fault
text_fault text.NoMemory = no.NoMemory
text_fault text.NotJson = no.Manifest text.NotJson
text_fault text.BadKey = no.Manifest text.BadKey
text_fault text.BadValue = no.Manifest text.BadValue
text_fault text.WrongVendor = no.Manifest text.WrongVendor
text_fault text.WrongClass = no.Manifest text.WrongClass
text_fault text.NoComponent = no.Manifest text.NoComponent
text_fault text.RepeatedComponent = no.Manifest text.RepeatedComponent

-- Why bytes aren't accepted as a manifest: they are none for this device, or memory ran out.
abbrev pub RefusesText : Identity → List ℕ → Fault → Type 0
RefusesText identity bytes (no.Manifest error) = IsRefusal identity bytes error
RefusesText identity bytes no.NoMemory = Unit
RefusesText identity bytes other = ⊥

-- A manifest has no component.
abbrev pub HasNoComponent : Manifest → Type 0
HasNoComponent manifest = length manifest.components.items ≡ 0

-- Which refusals a manifest that was parsed before can have. NoComponent comes only if the manifest
-- names an image that the device lacks. RepeatedComponent comes only if the device has each image
-- and the manifest names one twice. BadValue comes only if the manifest has no component. No other
-- refusal of a text comes, nor NoMemory.
abbrev pub RefusesManifest : Identity → Manifest → Fault → Type 0
RefusesManifest identity manifest (no.Manifest text.NoComponent) =
    NamesImages identity manifest → ⊥
RefusesManifest identity manifest (no.Manifest text.RepeatedComponent) =
    NamesImages identity manifest × (NamesEachOnce manifest → ⊥)
RefusesManifest identity manifest (no.Manifest text.BadValue) = HasNoComponent manifest
RefusesManifest identity manifest (no.Manifest error) = ⊥
RefusesManifest identity manifest no.NoMemory = ⊥
RefusesManifest identity manifest other = Unit
