-- Contracts of the calls of a device that is held in parts: a flash, the open uploads, and whether
-- the device is booted.
use Rattle.std.specs.Prelude.{◌≡◌, ◌≤◌, ℕ, ◌+◌, Bool, true, false, List, length, Option, Some}
use Rattle.std.specs.Prelude.{Result, Ok, Err, IfErr, OnOk}
use Rattle.std.specs.Borrow.{Bor}
use Rattle.machine.specs.declared.event.Event.TheVariants as event
use Rattle.flash_model.specs.Chip.{Chip}
use Rattle.flash_model.specs.declared.error.FlashError.TheVariants.{Off}
use Rattle.sector_map.specs.declared.layout.SectorMap.{SectorMap}
use Rattle.sector_map.specs.Map.{IsLaidOut, Keeps}
use Rattle.sector_map.specs.Part.{Part, Slot, TrailerOf, any_part, incoming_of, only}
use Rattle.sector_map.specs.declared.layout.Side.TheVariants.{Primary, Secondary}
use Rattle.manifest.specs.declared.error.ManifestError.TheVariants.{BadValue, NoComponent, RepeatedComponent}
use Rattle.manifest.specs.declared.identity.Identity.{Identity}
use Rattle.manifest.specs.declared.manifest.Manifest as given
use Rattle.manifest.specs.Fault.{IsManifest}
use Rattle.manifest.specs.Manifest.{NamesEachOnce, NamesImages}
use Rattle.set_log.specs.Log.{state_of}
use Rattle.upload.specs.Accepted.{accepted_parts}
use Rattle.machine.specs.Device.{DeviceState}
use Rattle.upload.specs.NoSession.{LacksSession}
use Rattle.upload.specs.Sessions.{AllClosed, AllOpenAt, IsOpenAt, upload_at}
use Rattle.upload.specs.Steady.{IsSteadyAt}
use Rattle.upload.specs.View.{view}
use Rattle.upload.specs.Wear.{journal_of_components}
use Rattle.upload.specs.declared.sessions.Upload.{Upload}
use Rattle.flash_contents.specs.Holding.{DeviceView}
use Rattle.flash_contents.specs.Passing.{StepsTo}
use Rattle.machine.specs.Steps.{DeviceEvent}
use Rattle.machine.specs.declared.error.Fault.{Fault}
use Rattle.machine.specs.declared.error.Fault.TheVariants as no
use Rattle.boot_core.specs.Answers.{EndsCall, IsNotBooted, IsOff, is_stop, keeps_all, may_close, reply_of_result}
use Rattle.machine.specs.declared.upload_error.UploadError.{UploadError}
use Rattle.machine.specs.declared.upload_error.UploadError.TheVariants.{NoSession, SizeWrong}
use Rattle.upload.specs.Finishing.{WritesLastUnit}
use Rattle.boot_core.specs.Confirming.{IsOkSet}
use Rattle.boot_core.specs.Device.{StaysHeld, made}
use Rattle.boot_core.specs.Ready.{HasNoComponent, IsReadiness, LogsBoot, LogsRest, LogsTrialOf, RefusesManifest}
use Rattle.boot_core.specs.Ready.{log_refusal}

-- A call checks whether uploads are taken.
pub record ChecksReady (map : SectorMap) (is_booted : Bool) (old new : Chip)
    (result : Result Unit Fault) : Type 0 where
  -- The flash is as it was.
  pub same : new ≡ old
  -- The result is the first check that fails.
  pub ready : IsReadiness result is_booted (state_of map old) old.is_on
  -- If the device is booted and the flash is off, that is the result.
  pub off : is_booted ≡ true → old.is_on ≡ false → result ≡ Err (no.Flash Off)

-- A call returns a fault, and stops the device if the flash caused the fault.
pub record Stops (fault : Fault) (old : List (Option Upload)) (was_up : Bool)
    (new : List (Option Upload)) (is_booted : Bool) (result : Fault) : Type 0 where
  -- The fault is returned unchanged.
  pub is : result ≡ fault
  -- If the flash stopped the call, the device isn't booted.
  pub down : is_stop fault ≡ true → is_booted ≡ false
  -- If the flash stopped the call, no upload is open.
  pub closed : is_stop fault ≡ true → AllClosed new
  -- Otherwise the device is booted if it was.
  pub up : is_stop fault ≡ false → is_booted ≡ was_up
  -- Otherwise the uploads are as they were.
  pub kept : is_stop fault ≡ false → new ≡ old

-- A call checks whether uploads are taken, and stops the device if the flash stopped the check.
pub record AsksReady (map : SectorMap) (old new : DeviceView) (result : Result Unit Fault)
    : Type 0 where
  pub asked : ChecksReady map old.up old.flash new.flash result
  -- If uploads are taken, nothing changes.
  pub taken : OnOk result (new ≡ old)
  -- Otherwise the refusal is returned.
  pub stops : IfErr result (λ fault. Stops fault old.sessions old.up new.sessions new.up fault)

-- A call turns the result of a call of `Uploads` into that of the device.
abbrev pub PassesOn : Result Unit UploadError → List (Option Upload) → Bool → List (Option Upload)
    → Bool → Result Unit Fault → Type 0
PassesOn (Ok done) old was_up new is_booted (Ok passed) = (new ≡ old) × (is_booted ≡ was_up)
PassesOn (Err error) old was_up new is_booted (Err fault) =
    Stops (no.Upload error) old was_up new is_booted fault
PassesOn taken old was_up new is_booted result = ⊥

-- A booted device whose flash has power, and whose log takes no uploads, returns what the log says,
-- and nothing changes.
abbrev pub RefusesByLog : SectorMap → DeviceView → DeviceView → Result Unit Fault → Type 0
RefusesByLog map old new result = old.up ≡ true → old.flash.is_on ≡ true → (fault : Fault)
    → log_refusal (state_of map old.flash) ≡ Some fault → (result ≡ Err fault) × (new ≡ old)

-- The bytes that a call with this event asks a journal for, at most. The number for a manifest or a
-- boot isn't used: a manifest is counted by its components.
abbrev pub journal_of : DeviceEvent → ℕ
journal_of (event.Piece image more) = 31 + length more.now
journal_of (event.Finish image) = 68
journal_of (event.Withdraw image) = 44
journal_of (event.Confirm image) = 20
journal_of other = 0

-- A call passes an event to a device with this map. This holds for each event, whatever a refusal
-- leaves.
pub record StepsHere (map : SectorMap) (event : DeviceEvent) (touched : Part → Bool)
    (old new : DeviceView) (result : Result Unit Fault) : Type 0 where
  -- The map is still laid out on the flash.
  pub laid : IsLaidOut map new.flash
  -- If the open uploads matched the flash, they still do.
  pub opens : AllOpenAt (view map old.flash) old.sessions
      → AllOpenAt (view map new.flash) new.sessions
  -- On a flash with power the call is a step of the machine, whatever else the device was made
  -- with.
  pub steps : (identity : Identity) (boots : ℕ) → old.flash.is_on ≡ true
      → StepsTo (made map identity boots) old new event (reply_of_result result)
  -- Only these parts are touched.
  pub outside : Keeps map touched old.flash new.flash
  -- If the device isn't booted, nothing is touched, and that is the result.
  pub down : old.up ≡ false → IsNotBooted result old new
  -- If the device is booted and the flash is off, that is the result, and nothing is written.
  pub off : old.up ≡ true → old.flash.is_on ≡ false → IsOff result old.flash new.flash
  -- It asks a journal for at most the bytes of its event.
  pub journal : new.flash.journaled ≤ old.flash.journaled + journal_of event
  pub ends : EndsCall (reply_of_result result) old new

-- A call of uploads on a device with this map, whatever a refusal leaves of the flash.
pub record TakesCall (map : SectorMap) (event : DeviceEvent) (touched : Part → Bool)
    (old new : DeviceView) (result : Result Unit Fault) : Type 0 where
  pub here : StepsHere map event touched old new result
  pub open here use *
  -- If the log takes no uploads, the result says why, and nothing changes.
  pub unready : RefusesByLog map old new result
  -- After a refusal that isn't the flash's, the device is booted if it was.
  pub up : IfErr result (λ fault. is_stop fault ≡ false → new.up ≡ old.up)
  -- Such a refusal leaves the uploads too, unless it closes the upload of its image.
  pub kept : IfErr result (λ fault. keeps_all (may_close event) fault ≡ true → new ≡ old)

-- A call passes an event to a device with this map.
pub record TakesHere (map : SectorMap) (event : DeviceEvent) (touched : Part → Bool)
    (old new : DeviceView) (result : Result Unit Fault) : Type 0 where
  pub call : TakesCall map event touched old new result
  pub open call use *
  -- A refusal that isn't the flash's leaves the flash as it was.
  pub refused : IfErr result (λ fault. is_stop fault ≡ false → new.flash ≡ old.flash)

-- A call takes a piece of an upload on a device with this map, whether or not the open uploads
-- match the flash.
pub record TakesPieceHere (map : SectorMap) (image : ℕ) (more : Bor (List ℕ)) (old new : DeviceView)
    (result : Result Unit Fault) : Type 0 where
  pub taken : TakesHere map (event.Piece image more) (only (Slot image Secondary)) old new result
  pub open taken use *
  -- On any flash, whatever the uploads: a state at rest without a trial stays, even if the call
  -- fails.
  pub rests : (s : DeviceState) → IsSteadyAt (view map old.flash) s
      → IsSteadyAt (view map new.flash) s
  -- An upload that matches the flash isn't refused as one that doesn't.
  pub matched : (u : Upload) → upload_at old.sessions image ≡ Some u
      → IsOpenAt (view map old.flash) image u → result ≡ Err (no.Upload NoSession) → ⊥
  -- On a flash with power, a device that takes uploads refuses a piece that no upload takes so, and
  -- nothing changes.
  pub lacks : old.flash.is_on ≡ true → old.up ≡ true → LogsRest (state_of map old.flash)
      → LacksSession map old.sessions image (length more.now) old.flash
      → (result ≡ Err (no.Upload NoSession)) × (new ≡ old)
  -- No other piece is refused so.
  pub only_lacking : result ≡ Err (no.Upload NoSession)
      → LacksSession map old.sessions image (length more.now) old.flash

-- Accepting a text touches only the log, and the secondary slots and trailers of the images that
-- its manifest names, and asks a journal for at most 120 bytes, and those that opening each slot
-- takes. A text that isn't a manifest for this identity touches nothing.
pub data TouchesNamed (map : SectorMap) (identity : Identity) (text : List ℕ) (old new : Chip)
    : Type 0 where
  Named : (manifest : given.Manifest) → IsManifest identity text manifest
      → Keeps map (accepted_parts manifest.components.items) old new
      → new.journaled ≤ old.journaled
      + (120 + journal_of_components map manifest.components.items)
      → TouchesNamed map identity text old new
  Untouched : new ≡ old → TouchesNamed map identity text old new

-- A call accepts a manifest on a device with this map and this identity.
pub record AcceptsHere (map : SectorMap) (identity : Identity) (text : Bor (List ℕ))
    (old new : DeviceView) (result : Result Unit Fault) : Type 0 where
  -- The map is still laid out on the flash.
  pub laid : IsLaidOut map new.flash
  -- The open uploads match the flash.
  pub opens : AllOpenAt (view map new.flash) new.sessions
  -- On a flash with power the call is a step of the machine, however many boots a trial has.
  pub steps : (boots : ℕ) → old.flash.is_on ≡ true
      → StepsTo (made map identity boots) old new (event.Accept text) (reply_of_result result)
  -- Only parts of the map are touched.
  pub outside : Keeps map any_part old.flash new.flash
  -- Of these it touches only the log, and the secondary slots and trailers of the images that are
  -- named.
  pub named : TouchesNamed map identity text.now old.flash new.flash
  -- If the device isn't booted, nothing is touched, and that is the result.
  pub down : old.up ≡ false → IsNotBooted result old new
  -- If the log takes no uploads, the result says why, and nothing changes.
  pub unready : RefusesByLog map old new result
  -- A refusal that isn't the flash's leaves the flash as it was.
  pub refused : IfErr result (λ fault. is_stop fault ≡ false → new.flash ≡ old.flash)
  -- Such a refusal leaves the uploads too, and whether the device is booted.
  pub kept : IfErr result (λ fault. is_stop fault ≡ false → new ≡ old)
  -- If the device is booted and the flash is off, that is the result, and nothing is written.
  pub off : old.up ≡ true → old.flash.is_on ≡ false → IsOff result old.flash new.flash
  pub ends : EndsCall (reply_of_result result) old new

-- A device that takes uploads can open those of a manifest.
pub record CanOpen (map : SectorMap) (identity : Identity) (manifest : given.Manifest)
    (at : DeviceView) : Type 0 where
  pub laid_out : IsLaidOut map at.flash
  pub images : identity.images ≡ map.images
  pub opens : AllOpenAt (view map at.flash) at.sessions
  pub up : at.up ≡ true
  pub rests : LogsRest (state_of map at.flash)
  pub names : NamesImages identity manifest

-- A call opens the uploads of a manifest.
pub record OpensUploads (map : SectorMap) (identity : Identity) (manifest : given.Manifest)
    (old new : DeviceView) (result : Result Unit Fault) : Type 0 where
  -- The map is still laid out on the flash.
  pub laid : IsLaidOut map new.flash
  -- The open uploads match the flash.
  pub opens : AllOpenAt (view map new.flash) new.sessions
  -- On a flash with power, for any text that means the manifest, the call is the step of the
  -- machine that takes the text. That holds however many boots a trial has.
  pub steps : (boots : ℕ) (text : Bor (List ℕ)) → old.flash.is_on ≡ true
      → IsManifest identity text.now manifest
      → StepsTo (made map identity boots) old new (event.Accept text) (reply_of_result result)
  -- Whatever the manifest asks for, the device holds a state afterwards if it held one.
  pub holds : old.flash.is_on ≡ true → StaysHeld map old new
  -- Only the log is touched, and the secondary slots and trailers of its images.
  pub outside : Keeps map (accepted_parts manifest.components.items) old.flash new.flash
  -- A refusal that isn't the flash's leaves the flash as it was.
  pub refused : IfErr result (λ fault. is_stop fault ≡ false → new.flash ≡ old.flash)
  -- Such a refusal leaves the uploads too, and whether the device is booted.
  pub kept : IfErr result (λ fault. is_stop fault ≡ false → new ≡ old)
  -- Of the refusals of a manifest only NoComponent, RepeatedComponent and BadValue can come.
  pub told : IfErr result (RefusesManifest identity manifest)
  -- It asks a journal for at most 120 bytes, and those that opening each slot takes.
  pub journal : new.flash.journaled ≤ old.flash.journaled
      + (120 + journal_of_components map manifest.components.items)
  pub ends : EndsCall (reply_of_result result) old new

-- A call accepts a manifest that was parsed before, on a device with this map and this identity.
pub record TakesManifestHere (map : SectorMap) (identity : Identity) (manifest : given.Manifest)
    (old new : DeviceView) (result : Result Unit Fault) : Type 0 where
  -- All that opening the uploads of the manifest promises holds.
  pub taken : OpensUploads map identity manifest old new result
  pub open taken use *
  -- If the device isn't booted, nothing is touched, and that is the result.
  pub down : old.up ≡ false → IsNotBooted result old new
  -- If the log takes no uploads, the result says why, and nothing changes.
  pub unready : RefusesByLog map old new result
  -- If uploads are taken and the manifest names an image that the device lacks, that is the result,
  -- and nothing is touched.
  pub lacks : old.flash.is_on ≡ true → old.up ≡ true → LogsRest (state_of map old.flash)
      → (NamesImages identity manifest → ⊥)
      → (result ≡ Err (no.Manifest NoComponent)) × (new ≡ old)
  -- If uploads are taken, the device has each image and the manifest names one twice, that is the
  -- result, and nothing is touched.
  pub repeats : old.flash.is_on ≡ true → old.up ≡ true → LogsRest (state_of map old.flash)
      → NamesImages identity manifest → (NamesEachOnce manifest → ⊥)
      → (result ≡ Err (no.Manifest RepeatedComponent)) × (new ≡ old)
  -- If uploads are taken and the manifest has no component, that is the result, and nothing is
  -- touched.
  pub empty : old.flash.is_on ≡ true → old.up ≡ true → LogsRest (state_of map old.flash)
      → HasNoComponent manifest → (result ≡ Err (no.Manifest BadValue)) × (new ≡ old)
  -- If the device is booted and the flash is off, that is the result, and nothing is written.
  pub off : old.up ≡ true → old.flash.is_on ≡ false → IsOff result old.flash new.flash

-- A call finishes an upload on a device with this map. Only the secondary slot of the image and its
-- trailer are touched.
pub record FinishesHere (map : SectorMap) (image : ℕ) (old new : DeviceView)
    (result : Result Unit Fault) : Type 0 where
  pub call : TakesCall map (event.Finish image) (incoming_of image) old new result
  pub open call use *
  -- If too few bytes came, the flash is as it was.
  pub size : result ≡ Err (no.Upload SizeWrong) → new.flash ≡ old.flash
  -- A refusal that isn't the flash's writes nothing but the secondary slot of the image.
  pub slot : IfErr result (λ fault. is_stop fault ≡ false
      → Keeps map (only (Slot image Secondary)) old.flash new.flash)
  -- Of the slot it writes at most the last unit of the upload.
  pub unit : IfErr result (λ fault. is_stop fault ≡ false → (u : Upload)
      → upload_at old.sessions image ≡ Some u → WritesLastUnit map image u old.flash new.flash)
  -- It erases no sector.
  pub erases : IfErr result (λ fault. is_stop fault ≡ false
      → new.flash.erases ≡ old.flash.erases)

-- A call confirms an image on a device with this map. Only the primary trailer of the image is
-- touched.
pub record ConfirmsHere (map : SectorMap) (image : ℕ) (old new : DeviceView)
    (result : Result Unit Fault) : Type 0 where
  pub here : StepsHere map (event.Confirm image) (only (TrailerOf image Primary)) old new result
  pub open here use *
  -- A refusal that isn't the flash's leaves the flash as it was.
  pub refused : IfErr result (λ fault. is_stop fault ≡ false → new.flash ≡ old.flash)
  -- Such a refusal leaves the uploads too, and whether the device is booted.
  pub kept : IfErr result (λ fault. is_stop fault ≡ false → new ≡ old)
  -- If the call succeeds, the log said that the image is on trial, and the image is confirmed.
  pub ok : OnOk result (LogsTrialOf map.images image (state_of map old.flash)
      × IsOkSet map image new.flash)
  -- If the log says that a boot was interrupted, the device isn't booted: that is the result, and
  -- nothing changes.
  pub interrupted : old.up ≡ true → old.flash.is_on ≡ true → LogsBoot (state_of map old.flash)
      → (result ≡ Err no.NotBooted) × (new ≡ old)
  -- Else, if the log doesn't say that the image is on trial, that is the result, and nothing changes.
  pub untried : old.up ≡ true → old.flash.is_on ≡ true
      → (LogsTrialOf map.images image (state_of map old.flash) → ⊥)
      → (LogsBoot (state_of map old.flash) → ⊥)
      → (result ≡ Err no.NotOnTrial) × (new ≡ old)
  -- NotOnTrial is returned in no other case.
  pub tried : LogsTrialOf map.images image (state_of map old.flash)
      → result ≡ Err no.NotOnTrial → ⊥
