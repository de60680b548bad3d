-- The result of `make-device`.
use Rattle.std.specs.Prelude.{◌≡◌, ℕ, List, Option, unwrap_or}
use Rattle.std.specs.Io.KnownBytes.{Appends}
use Rattle.uuid.specs.Uuid.{namespace_dns}
use Rattle.sector_map.specs.declared.error.MapError.{MapError}
use Rattle.sector_map.specs.Making.{HasSizes, IsMapFault}
use Rattle.manifest.specs.Ids.{uuid_of}
use Rattle.device_texts.specs.declared.device.DeviceFile.{DeviceFile}
use Rattle.device_texts.specs.AnswerText.{map_refusal_text}
use Rattle.device_texts.specs.DeviceFile.{IsDeviceFile}
use Rattle.command_line.specs.declared.orders.NewDevice.{NewDevice}
use Rattle.host.specs.declared.answer.Answer.{Answer}
use Rattle.host.specs.declared.answer.Answer.TheVariants.{Done, Refused, Cut}

-- The device that the arguments describe: the map of its sizes, the identifiers of its names, and
-- the boots of a trial, which are 1 if they aren't given.
pub record IsAsked (asked : NewDevice) (device : DeviceFile) : Type 0 where
  pub map : HasSizes asked.sector_size asked.sectors.items device.map
  pub vendor : device.identity.vendor ≡ uuid_of namespace_dns asked.vendor.now
  pub class : device.identity.class ≡ uuid_of device.identity.vendor asked.class.now
  pub images : device.identity.images ≡ device.map.images
  pub trial_boots : device.trial_boots ≡ unwrap_or asked.trial_boots 1

-- `make-device` wrote the device file of the described device.
abbrev pub WritesDevice : NewDevice → Option (List ℕ) → Option (List ℕ) → Type 0
WritesDevice asked old new =
    (text : List ℕ) × (device : DeviceFile) × IsAsked asked device × IsDeviceFile text device
    × Appends old new text

-- `make-device` wrote why the described sizes make no map.
abbrev pub RefusesSizes : NewDevice → Option (List ℕ) → Option (List ℕ) → Type 0
RefusesSizes asked old new =
    (fault : MapError) × IsMapFault asked.sector_size asked.sectors.items fault
    × Appends old new (map_refusal_text fault)

abbrev pub AnswersNewDevice : Answer → NewDevice → Option (List ℕ) → Option (List ℕ) → Type 0
AnswersNewDevice Done asked old new = WritesDevice asked old new
AnswersNewDevice Refused asked old new = RefusesSizes asked old new
AnswersNewDevice Cut asked old new = ⊥

-- Two devices have the same map, identity and boots of a trial.
pub record AreSame (one other : DeviceFile) : Type 0 where
  pub sector_size : one.map.sector_size ≡ other.map.sector_size
  pub images : one.map.images ≡ other.map.images
  pub sectors : one.map.sectors ≡ other.map.sectors
  pub vendor : one.identity.vendor ≡ other.identity.vendor
  pub class : one.identity.class ≡ other.identity.class
  pub identified : one.identity.images ≡ other.identity.images
  pub trial_boots : one.trial_boots ≡ other.trial_boots
