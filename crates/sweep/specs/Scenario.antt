-- A run of a scenario, and its end.
use Rattle.std.specs.Prelude.{◌≡◌, ℕ, ◌<◌, false, List, [], ◌∷◌, ◌++◌, length, map, replicate, Option, None, Some, option_map, Vec}
use Rattle.std.specs.List.{AllZip, range_with_len}
use Rattle.machine.specs.declared.event.Event.{Event}
use Rattle.machine.specs.declared.event.Event.TheVariants as event
use Rattle.machine.specs.Event.{event_map}
use Rattle.flash_model.specs.declared.torn.Armed.{Armed}
use Rattle.flash_model.specs.Chip.{Chip}
use Rattle.flash_model.specs.Memory.{with_armed}
use Rattle.sector_map.specs.declared.layout.SectorMap.{SectorMap}
use Rattle.sector_map.specs.declared.layout.Side.TheVariants.{Primary}
use Rattle.version_order.specs.declared.version.Version.{Version}
use Rattle.reports.specs.declared.table.Entry.{Entry}
use Rattle.image_reading.specs.Slot.{slot_bytes}
use Rattle.upload.specs.Sessions.{AllClosed}
use Rattle.upload.specs.Steady.{IsFront}
use Rattle.flash_contents.specs.Holding.{DeviceView}
use Rattle.machine.specs.Intake.{Setup}
use Rattle.flash_contents.specs.Passing.{RunsTo, StepsTo}
use Rattle.flash_contents.specs.Reading.{IsReadOf}
use Rattle.machine.specs.Steps.{DeviceEvent}
use Rattle.machine.specs.declared.reply.Reply.{Reply}
use Rattle.device_texts.specs.DeviceFile.{setup_of}
use Rattle.device_texts.specs.FlashOf.{flash_of}
use Rattle.boot_core.specs.CutEvents.{CutsEach, IsCutByWrite}
use Rattle.sweep.specs.Cuts.{AreArmedFor}
use Rattle.sweep.specs.declared.cuts.TornWrite.{TornWrite}
use Rattle.sweep.specs.declared.scenario.Scenario.{Scenario}
use Rattle.sweep.specs.declared.notes.ScenarioEnd.{ScenarioEnd}

-- The same events, with their bytes as lists.
abbrev pub held_in : {A : Type 0} → List (Event (Vec ℕ A)) → List (Event (List ℕ))
held_in events = map (event_map (λ bytes. bytes.items)) events

-- The same events, with the bytes that they borrow.
abbrev pub borrowed_in : List DeviceEvent → List (Event (List ℕ))
borrowed_in events = map (event_map (λ bytes. bytes.now)) events

-- Events, each with a number of boots after it.
abbrev pub with_boots : List (Event (List ℕ)) → List ℕ → List (Event (List ℕ))
with_boots [] counts = []
with_boots (given ∷ rest) [] = given ∷ rest
with_boots (given ∷ rest) (count ∷ counts) =
    given ∷ (replicate count event.Boot ++ with_boots rest counts)

-- An event and its reply are a step of the machine. The reply is Cut exactly if the flash took an
-- armed write in the event. The same writes stay armed.
pub record StepsCut (setup : Setup) (old new : DeviceView) (happened : DeviceEvent) (reply : Reply)
    : Type 0 where
  pub steps : StepsTo setup old new happened reply
  pub cut : IsCutByWrite old.flash reply new.flash

-- Events and their replies are a run of the machine. Event by event, the reply is Cut exactly if
-- the flash took an armed write in it. The armed writes stay the same.
pub record RunsCut (setup : Setup) (old new : DeviceView) (events : List DeviceEvent)
    (replies : List Reply) : Type 0 where
  pub runs : RunsTo setup old new events replies
  pub cuts : CutsEach setup old events replies new

-- A device boots some number of times, as a run of the machine.
pub record Reboots (setup : Setup) (old new : DeviceView) : Type 0 where
  pub count : ℕ
  pub replies : List Reply
  pub runs : RunsCut setup old new (replicate count event.Boot) replies

-- A device takes an event and then boots some number of times, as a run of the machine.
pub record RunsEvent (setup : Setup) (old new : DeviceView) (happened : DeviceEvent) : Type 0 where
  pub count : ℕ
  pub replies : List Reply
  pub runs : RunsCut setup old new (happened ∷ replicate count event.Boot) replies

-- A device takes these events, each with some boots after it, as a run of the machine.
pub record RunsEvents (setup : Setup) (old new : DeviceView) (given : List (Event (List ℕ)))
    : Type 0 where
  pub counts : List ℕ
  pub events : List DeviceEvent
  pub replies : List Reply
  pub each : length counts ≡ length given
  pub come : borrowed_in events ≡ with_boots given counts
  pub runs : RunsCut setup old new events replies

-- An image runs in this version: its primary slot begins with an intact image of this version.
pub record HasVersion (map : SectorMap) (chip : Chip) (image : ℕ) (version : Version)
    : Type 0 where
  pub entry : Entry
  pub same : entry.version ≡ version
  pub read : (held : Option (List ℕ)) → IsFront (slot_bytes map chip image Primary) held
      → IsReadOf held (Some entry)

-- An image is damaged: its primary slot begins with no intact image.
pub record HasDamagedSlot (map : SectorMap) (chip : Chip) : Type 0 where
  pub image : ℕ
  pub there : image < map.images
  pub damaged : IsFront (slot_bytes map chip image Primary) None

-- The images of a device run in these versions. `None` if an image is damaged.
abbrev pub HaveVersions : SectorMap → Chip → Option (List Version) → Type 0
HaveVersions map chip None = HasDamagedSlot map chip
HaveVersions map chip (Some versions) =
    AllZip (HasVersion map chip) (range_with_len 0 map.images) versions

-- All events of a scenario.
abbrev pub all_of : Scenario → List (Event (List ℕ))
all_of scenario =
    held_in scenario.events.now ++ held_in scenario.between.now ++ held_in scenario.more.now

-- A run of a scenario with these power cuts, and its end. A new device over the flash, with exactly
-- those writes armed, took all events. The reply to an event is Cut exactly if the flash took one
-- of those writes in it. At the end the images run in these versions; or one of them is damaged,
-- and no versions are reported.
pub record IsScenarioRun (scenario : Scenario) (cuts : List TornWrite) (end : ScenarioEnd) : Type 0 where
  pub armed : List Armed
  pub old : DeviceView
  pub new : DeviceView
  pub are_armed : AreArmedFor cuts armed
  pub flash : old.flash ≡ with_armed (flash_of scenario.device.now.map scenario.bytes.now) armed
  pub down : old.up ≡ false
  pub closed : AllClosed old.sessions
  pub runs : RunsEvents (setup_of scenario.device.now) old new (all_of scenario)
  pub running : HaveVersions scenario.device.now.map new.flash
      (option_map (λ versions. versions.items) end.versions)
