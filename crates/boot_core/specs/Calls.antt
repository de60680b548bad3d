-- What each call of a device does, and what a run of events on a device does.
use Rattle.std.specs.Prelude.{◌≡◌, ◌⊎◌, ℕ, ◌+◌, Bool, true, false, List, length, None, Some, Vec}
use Rattle.std.specs.Prelude.{Result, Err, IfErr, IfOk, OnOk}
use Rattle.std.specs.Borrow.{Bor}
use Rattle.machine.specs.declared.event.Event.TheVariants as event
use Rattle.flash_model.specs.Chip.{Chip}
use Rattle.sector_map.specs.declared.layout.SectorMap.{SectorMap}
use Rattle.sector_map.specs.Map.{Keeps}
use Rattle.sector_map.specs.Part.{Part, Slot, TrailerOf, incoming_of, only}
use Rattle.sector_map.specs.declared.layout.Side.TheVariants.{Primary, Secondary}
use Rattle.manifest.specs.declared.error.ManifestError.TheVariants.{BadValue, NoComponent, RepeatedComponent}
use Rattle.manifest.specs.declared.identity.Identity.{Identity}
use Rattle.manifest.specs.declared.manifest.Manifest as given
use Rattle.manifest.specs.Fault.{IsManifest}
use Rattle.manifest.specs.Manifest.{NamesEachOnce, NamesImages}
use Rattle.set_log.specs.Log.{state_of}
use Rattle.set_log.specs.declared.state.RecordKind.{RecordKind}
use Rattle.set_log.specs.declared.state.State.{State}
use Rattle.machine.specs.Device.{DeviceState, Machine}
use Rattle.upload.specs.Accepted.{accepted_parts}
use Rattle.upload.specs.View.{view}
use Rattle.upload.specs.Sessions.{AllClosed, upload_at}
use Rattle.machine.specs.Boots.{IsAllSound, IsReadSound, is_answer}
use Rattle.flash_contents.specs.Holding.{Holds, Stands}
use Rattle.flash_contents.specs.Lifecycle.{HasRunning}
use Rattle.flash_contents.specs.Passing.{RunsTo, StepsTo, reply_of}
use Rattle.flash_contents.specs.Starting.{StartsBy}
use Rattle.machine.specs.States.{asleep}
use Rattle.machine.specs.Steps.{DeviceEvent, cut_of, cuts_in}
use Rattle.machine.specs.declared.error.Fault.{Fault}
use Rattle.machine.specs.declared.error.Fault.TheVariants as no
use Rattle.machine.specs.declared.error.Fault.TheVariants.{NotProvisioned}
use Rattle.flash_contents.specs.declared.finding.Finding.{Finding}
use Rattle.machine.specs.declared.reply.Reply.{Reply}
use Rattle.machine.specs.declared.reply.Reply.TheVariants.{TrialAgain}
use Rattle.boot_core.specs.Journal.{AsksToBoot}
use Rattle.boot_core.specs.Answers.{EndsCall, IsBootReply, IsNotBooted, IsOff, is_stop, is_stopped}
use Rattle.boot_core.specs.Answers.{keeps_all, may_close, reply_of_boot, reply_of_result}
use Rattle.machine.specs.declared.upload_error.UploadError.TheVariants.{SizeWrong}
use Rattle.upload.specs.declared.sessions.Upload.{Upload}
use Rattle.upload.specs.Finishing.{WritesLastUnit}
use Rattle.boot_core.specs.CutEvents.{IsCutAsDue, StartsAfter, StepsEach}
use Rattle.boot_core.specs.Device.{StaysHeld, Whole, made}
use Rattle.boot_core.specs.Found.{IsStopped}
use Rattle.boot_core.specs.Ready.{HasNoComponent, LogsBoot, LogsRest, LogsTrialOf, RefusesManifest}
use Rattle.boot_core.specs.Confirming.{IsOkSet}
use Rattle.boot_core.specs.Moving.{may_move, moved_parts}
use Rattle.boot_core.specs.Over.{IsIdleTrial, IsTriedAgain}
use Rattle.boot_core.specs.Taking.{RefusesByLog}
use Rattle.boot_core.specs.Wear.{DoesNothing, IsWorn}

-- A device is new: made over this flash, with this map, identity and number of boots per trial.
pub record IsNew (map : SectorMap) (identity : Identity) (boots : ℕ) (chip : Chip)
    (device : Whole) : Type 0 where
  pub setup : device.setup ≡ made map identity boots
  pub flash : device.here.flash ≡ chip
  pub down : device.here.up ≡ false
  pub closed : AllClosed device.here.sessions
  -- The device holds each state that the flash holds, such as the one that provisioning leaves.
  pub holds : (s : DeviceState) → Stands map chip s → Holds map device.here (asleep s)

-- The primary slots begin with the images that a state runs, and this state is sound: what it runs is
-- intact and valid, and so is what a revert would bring back.
abbrev pub RunsSound : SectorMap → Chip → Type 0
RunsSound map chip = (s : DeviceState) × IsAllSound s × HasRunning map chip s

-- A device boots, whatever its flash contains.
pub record BootsDevice (old new : Whole) (result : Result Reply Fault) : Type 0 where
  pub setup : new.setup ≡ old.setup
  -- With power, the boot is a step of the machine, between states that the device holds.
  pub steps : old.here.flash.is_on ≡ true
      → StepsTo old.setup old.here new.here event.Boot (reply_of_boot result)
  -- An `Ok` reply leaves the device booted.
  pub ok : IfOk result (λ reply. is_answer reply ≡ true)
  -- The device is booted afterwards exactly if the reply says so.
  pub up : new.here.up ≡ is_answer (reply_of_boot result)
  -- No refusal of another call is returned, unless the flash stopped the boot.
  pub told : IsBootReply (reply_of_boot result) ⊎ (is_stopped (reply_of_boot result) ≡ true)
  -- With power and no power cut, a boot from a state that is read sound leaves the device booted.
  pub answers : old.here.flash.is_on ≡ true → cut_of (reply_of_boot result) ≡ 0
      → (s : DeviceState) → Stands old.setup.map old.here.flash s → IsReadSound s
      → is_answer (reply_of_boot result) ≡ true
  -- If the log has no state, nothing is written.
  pub empty : state_of old.setup.map old.here.flash ≡ None → new.here.flash ≡ old.here.flash
  -- With power, a log without a state is reported.
  pub refused : old.here.flash.is_on ≡ true → state_of old.setup.map old.here.flash ≡ None
      → result ≡ Err NotProvisioned
  -- The kind of the log's record limits the erases of a boot without a power cut.
  pub erases : old.here.flash.is_on ≡ true → cut_of (reply_of_boot result) ≡ 0
      → (state : State) (s : DeviceState)
      → state_of old.setup.map old.here.flash ≡ Some state
      → Stands old.setup.map old.here.flash s
      → IsWorn old.setup.map state.kind state.mask old.here.flash new.here.flash
      (reply_of_boot result)
  -- Only the log, scratch, and the slots and trailers of images in the record's set or requested are
  -- changed, and nothing after the map's last sector.
  pub outside : Keeps old.setup.map (moved_parts (may_move old.setup.map old.here.flash))
      old.here.flash new.here.flash
  -- Whatever the flash holds, the primary slots begin with what the reply says: after a report with
  -- an intact image for each image, which together are a valid set, and after TrialAgain with
  -- intact images.
  pub starts : StartsBy (view old.setup.map new.here.flash) (reply_of_boot result)
  -- With power and from a sound state, a boot that answers leaves the images of a sound state in the
  -- primary slots.
  pub fits : old.here.flash.is_on ≡ true → (m : Machine) → Holds old.setup.map old.here m
      → IsAllSound m.kept → is_answer (reply_of_boot result) ≡ true
      → RunsSound old.setup.map new.here.flash
  -- From a Steady record, a boot that takes nothing or is refused writes nothing.
  pub idle : (state : State) → state_of old.setup.map old.here.flash ≡ Some state
      → state.kind ≡ RecordKind.Steady → DoesNothing (reply_of_boot result)
      → new.here.flash ≡ old.here.flash
  -- With power and from a Trial record, a boot that takes nothing or is refused found each image of
  -- the set confirmed, and writes only the record that the trial is over. Or the set can neither
  -- revert nor run, and nothing is written.
  pub over : old.here.flash.is_on ≡ true → (state : State)
      → state_of old.setup.map old.here.flash ≡ Some state → state.kind ≡ RecordKind.Trial
      → DoesNothing (reply_of_boot result)
      → IsIdleTrial old.setup.map state old.here.flash new.here.flash (reply_of_boot result)
  -- From a Trial record, a boot that tries the set again writes at most the record of the boots that
  -- are left.
  pub again : (state : State) (set left : ℕ)
      → state_of old.setup.map old.here.flash ≡ Some state → state.kind ≡ RecordKind.Trial
      → reply_of_boot result ≡ TrialAgain set left
      → IsTriedAgain old.setup.map state old.here.flash new.here.flash set left
  -- On any flash, a boot that asks a journal for more than room to boot gets a step further: it counts
  -- a step of its swap, records another state, or settles a set that was requested.
  pub journal : (state : State) → state_of old.setup.map old.here.flash ≡ Some state
      → AsksToBoot old.setup.map state old.here.flash new.here.flash
  -- If the flash is off, the result says so and the flash is unchanged.
  pub off : old.here.flash.is_on ≡ false → IsOff result old.here.flash new.here.flash
  -- A refusal during an upgrade or a revert reports what was found of it, and wrote at most the swap.
  pub stops : (state : State) (finding : Finding) (permanent : Bool)
      → state_of old.setup.map old.here.flash ≡ Some state
      → reply_of_boot result ≡ reply_of finding permanent
      → IsStopped old.setup.map state old.here.flash new.here.flash finding
  pub closed : AllClosed new.here.sessions
  -- The reply is Cut exactly if a write was interrupted, and Off only if the flash was off.
  pub ends : EndsCall (reply_of_boot result) old.here new.here

-- A device takes an event, whatever its flash contains and even if it refuses the event.
pub record StepsDevice (event : DeviceEvent) (touched : Part → Bool) (old new : Whole)
    (result : Result Unit Fault) : Type 0 where
  pub setup : new.setup ≡ old.setup
  -- With power, the call is a step of the machine, between states that the device holds.
  pub steps : old.here.flash.is_on ≡ true
      → StepsTo old.setup old.here new.here event (reply_of_result result)
  -- Only these parts of the map are changed, and nothing after it.
  pub outside : Keeps old.setup.map touched old.here.flash new.here.flash
  -- A device that isn't booted says so, and nothing is changed.
  pub down : old.here.up ≡ false → IsNotBooted result old.here new.here
  -- If a booted device's flash is off, the result says so and the flash is unchanged.
  pub off : old.here.up ≡ true → old.here.flash.is_on ≡ false
      → IsOff result old.here.flash new.here.flash
  -- The reply is Cut exactly if a write was interrupted, and Off only if the flash was off.
  pub ends : EndsCall (reply_of_result result) old.here new.here

-- A device takes an event of an upload, whose refusal may change the flash.
pub record TakesEvent (event : DeviceEvent) (touched : Part → Bool) (old new : Whole)
    (result : Result Unit Fault) : Type 0 where
  pub stepped : StepsDevice event touched old new result
  pub open stepped use *
  -- With power, a booted device whose log takes no uploads says so, and is unchanged. It reports
  -- NotProvisioned, OnTrial, or NotBooted if the log says that a boot was interrupted.
  pub unready : RefusesByLog old.setup.map old.here new.here result
  -- Unless the flash stopped the call, a refusal leaves the device booted or not, as it was.
  pub up : IfErr result (λ fault. is_stop fault ≡ false → new.here.up ≡ old.here.up)
  -- A refusal leaves the device unchanged, unless the flash stopped it or it closes the upload.
  pub kept : IfErr result (λ fault. keeps_all (may_close event) fault ≡ true
      → new.here ≡ old.here)

-- A device takes an event, whose refusal leaves the flash unchanged.
pub record Takes (event : DeviceEvent) (touched : Part → Bool) (old new : Whole)
    (result : Result Unit Fault) : Type 0 where
  pub call : TakesEvent event touched old new result
  pub open call use *
  -- Unless the flash stopped the call, a refusal leaves the flash unchanged.
  pub refused : IfErr result (λ fault. is_stop fault ≡ false
      → new.here.flash ≡ old.here.flash)

-- A device takes a manifest that was already read, whatever its flash contains.
pub record TakesManifest (manifest : given.Manifest) (old new : Whole) (result : Result Unit Fault)
    : Type 0 where
  pub setup : new.setup ≡ old.setup
  -- With power, and for any text that means the manifest to this device, the call is the machine's
  -- step for the text, between states that the device holds.
  pub steps : (text : Bor (List ℕ)) → old.here.flash.is_on ≡ true
      → IsManifest old.setup.identity text.now manifest
      → StepsTo old.setup old.here new.here (event.Accept text) (reply_of_result result)
  -- With power, whatever the manifest requests, a device that held a state still holds one.
  pub holds : old.here.flash.is_on ≡ true → StaysHeld old.setup.map old.here new.here
  -- Only the secondary slots of its images, their trailers, and the log are changed.
  pub outside : Keeps old.setup.map (accepted_parts manifest.components.items)
      old.here.flash new.here.flash
  -- A device that isn't booted says so, and nothing is changed.
  pub down : old.here.up ≡ false → IsNotBooted result old.here new.here
  -- With power, a booted device whose log takes no uploads says so, and is unchanged. It reports
  -- NotProvisioned, OnTrial, or NotBooted if the log says that a boot was interrupted.
  pub unready : RefusesByLog old.setup.map old.here new.here result
  -- With power, a device that takes uploads and lacks an image of the manifest reports NoComponent,
  -- and nothing is changed.
  pub lacks : old.here.flash.is_on ≡ true → old.here.up ≡ true
      → LogsRest (state_of old.setup.map old.here.flash)
      → (NamesImages old.setup.identity manifest → ⊥)
      → (result ≡ Err (no.Manifest NoComponent)) × (new.here ≡ old.here)
  -- With power, a device that takes uploads and has each image of the manifest reports
  -- RepeatedComponent if the manifest names one twice, and nothing is changed.
  pub repeats : old.here.flash.is_on ≡ true → old.here.up ≡ true
      → LogsRest (state_of old.setup.map old.here.flash)
      → NamesImages old.setup.identity manifest → (NamesEachOnce manifest → ⊥)
      → (result ≡ Err (no.Manifest RepeatedComponent)) × (new.here ≡ old.here)
  -- With power, a device that takes uploads reports BadValue if the manifest has no component, and
  -- nothing is changed.
  pub empty : old.here.flash.is_on ≡ true → old.here.up ≡ true
      → LogsRest (state_of old.setup.map old.here.flash) → HasNoComponent manifest
      → (result ≡ Err (no.Manifest BadValue)) × (new.here ≡ old.here)
  -- Unless the flash stopped the call, a refusal leaves the flash unchanged.
  pub refused : IfErr result (λ fault. is_stop fault ≡ false
      → new.here.flash ≡ old.here.flash)
  -- Unless the flash stopped the call, a refusal leaves the complete device unchanged.
  pub kept : IfErr result (λ fault. is_stop fault ≡ false → new.here ≡ old.here)
  -- The manifest itself is refused only for an image that the device lacks, or that is named twice,
  -- or because it has no component; memory never runs out.
  pub told : IfErr result (RefusesManifest old.setup.identity manifest)
  -- If a booted device's flash is off, the result says so and the flash is unchanged.
  pub off : old.here.up ≡ true → old.here.flash.is_on ≡ false
      → IsOff result old.here.flash new.here.flash
  -- The reply is Cut exactly if a write was interrupted, and Off only if the flash was off.
  pub ends : EndsCall (reply_of_result result) old.here new.here

-- A device finishes an upload: only the image's secondary slot and that slot's trailer are changed.
pub record FinishesUpload (image : ℕ) (old new : Whole) (result : Result Unit Fault)
    : Type 0 where
  pub call : TakesEvent (event.Finish image) (incoming_of image) old new result
  pub open call use *
  -- If too few bytes were received, the flash is unchanged.
  pub size : result ≡ Err (no.Upload SizeWrong) → new.here.flash ≡ old.here.flash
  -- Unless the flash stopped the call, a refusal writes only the secondary slot, not its trailer.
  pub slot : IfErr result (λ fault. is_stop fault ≡ false
      → Keeps old.setup.map (only (Slot image Secondary)) old.here.flash new.here.flash)
  -- Unless the flash stopped the call, a refusal writes at most the last unit of the upload.
  pub unit : IfErr result (λ fault. is_stop fault ≡ false → (u : Upload)
      → upload_at old.here.sessions image ≡ Some u
      → WritesLastUnit old.setup.map image u old.here.flash new.here.flash)
  -- Unless the flash stopped the call, a refusal erases no sector.
  pub erases : IfErr result (λ fault. is_stop fault ≡ false
      → new.here.flash.erases ≡ old.here.flash.erases)

-- A device confirms an image: only the trailer of its primary slot is changed.
pub record ConfirmsTried (image : ℕ) (old new : Whole) (result : Result Unit Fault) : Type 0 where
  pub stepped : StepsDevice (event.Confirm image) (only (TrailerOf image Primary)) old new result
  pub open stepped use *
  -- Unless the flash stopped the call, a refusal leaves the flash unchanged.
  pub refused : IfErr result (λ fault. is_stop fault ≡ false
      → new.here.flash ≡ old.here.flash)
  -- Unless the flash stopped the call, a refusal leaves the complete device unchanged.
  pub kept : IfErr result (λ fault. is_stop fault ≡ false → new.here ≡ old.here)
  -- `Ok` means that the log has the image on trial, and that `image_ok` of its trailer is set.
  pub ok : OnOk result
      (LogsTrialOf old.setup.map.images image (state_of old.setup.map old.here.flash)
      × IsOkSet old.setup.map image new.here.flash)
  -- A device with power whose log says that a boot was interrupted isn't booted, says so, and is
  -- unchanged.
  pub interrupted : old.here.up ≡ true → old.here.flash.is_on ≡ true
      → LogsBoot (state_of old.setup.map old.here.flash)
      → (result ≡ Err no.NotBooted) × (new.here ≡ old.here)
  -- Any other booted device with power whose log doesn't have the image on trial says so, and is
  -- unchanged.
  pub untried : old.here.up ≡ true → old.here.flash.is_on ≡ true
      → (LogsTrialOf old.setup.map.images image (state_of old.setup.map old.here.flash) → ⊥)
      → (LogsBoot (state_of old.setup.map old.here.flash) → ⊥)
      → (result ≡ Err no.NotOnTrial) × (new.here ≡ old.here)
  -- NotOnTrial is returned only if the log doesn't have the image on trial.
  pub tried : LogsTrialOf old.setup.map.images image (state_of old.setup.map old.here.flash)
      → result ≡ Err no.NotOnTrial → ⊥

-- A device is reset.
pub record Resets (old new : Whole) : Type 0 where
  pub setup : new.setup ≡ old.setup
  -- The flash has power, and is otherwise unchanged.
  pub flash : new.here.flash ≡ record (old.here.flash) { is_on = true }
  pub down : new.here.up ≡ false
  pub closed : AllClosed new.here.sessions
  -- The device holds each state that it held, without uploads and not booted.
  pub holds : (m : Machine) → Holds old.setup.map old.here m
      → Holds old.setup.map new.here (asleep m.kept)

-- ---- runs

-- A device whose flash has power replies to an event.
pub record Replies (event : DeviceEvent) (old new : Whole) (reply : Reply) : Type 0 where
  pub setup : new.setup ≡ old.setup
  -- The reply is a step of the machine, between states that the device holds.
  pub steps : StepsTo old.setup old.here new.here event reply
  -- One more write was interrupted if the reply is Cut, else none.
  pub cuts : new.here.flash.cuts ≡ old.here.flash.cuts + cut_of reply
  -- Unless the reply is Cut, the flash has power.
  pub power : cut_of reply ≡ 0 → new.here.flash.is_on ≡ true
  -- Whatever the flash held, the primary slots begin with what the reply says.
  pub starts : StartsBy (view old.setup.map new.here.flash) reply
  -- What is fixed of the flash is unchanged, including which writes are armed to be interrupted.
  pub fixed : new.here.flash.fixed ≡ old.here.flash.fixed

-- A device takes a step: it replies to an event, and is reset after a power cut.
pub record Steps (event : DeviceEvent) (old new : Whole) (reply : Reply) : Type 0 where
  pub setup : new.setup ≡ old.setup
  -- The reply is a step of the machine, between states that the device holds.
  pub steps : StepsTo old.setup old.here new.here event reply
  -- One more write was interrupted if the reply is Cut, else none.
  pub cuts : new.here.flash.cuts ≡ old.here.flash.cuts + cut_of reply
  pub on : new.here.flash.is_on ≡ true
  -- Whatever the flash held, the primary slots begin with what the reply says.
  pub starts : StartsBy (view old.setup.map new.here.flash) reply
  -- What is fixed of the flash is unchanged, including which writes are armed to be interrupted.
  pub fixed : new.here.flash.fixed ≡ old.here.flash.fixed
  -- The reply is Cut exactly if the flash took a write armed to be interrupted, or had a fault.
  pub due : IsCutAsDue old.here.flash reply new.here.flash

-- A device replies to these events, in order.
pub record Runs (events : List DeviceEvent) (old new : Whole) {A E : Type 0}
    (result : Result (Vec Reply A) E) : Type 0 where
  -- Events and replies are a run of the machine, between states that the device holds.
  pub run : IfOk result (λ replies. RunsTo old.setup old.here new.here events replies.items)
  pub each : IfOk result (λ replies. length replies.items ≡ length events)
  -- As many replies are Cut as writes were interrupted.
  pub cuts : IfOk result (λ replies.
      new.here.flash.cuts ≡ old.here.flash.cuts + cuts_in replies.items)
  -- Each reply is Cut exactly if, during its event, the flash took an armed write or had a fault.
  pub due : IfOk result (λ replies.
      StepsEach IsCutAsDue old.setup old.here events replies.items new.here)
  -- Whatever the flash held, after each reply the primary slots begin with what it says: after a
  -- report with a valid set of intact images, and after TrialAgain with intact images.
  pub starts : IfOk result (λ replies.
      StepsEach (StartsAfter old.setup.map) old.setup old.here events replies.items new.here)
  -- The flash has power, and the setup is unchanged, so another run can follow.
  pub on : new.here.flash.is_on ≡ true
  pub setup : new.setup ≡ old.setup
  -- An error means that there is no memory for the replies, and nothing was done.
  pub nothing : IfErr result (λ error. new ≡ old)
