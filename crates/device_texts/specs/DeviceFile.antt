-- The meaning of a device file: that of the JSON value of its text.
use Rattle.std.specs.Prelude.{◌≡◌, ◌⊎◌, ℕ, ◌^◌, ◌<◌, ◌≤◌, IsSomeAnd, List, [], ◌∷◌, None, Some, codes}
use Rattle.std.specs.List.{AllZip}
use Rattle.serde_json.specs.Data.{Data}
use Rattle.serde_json.specs.Find.{get}
use Rattle.manifest.specs.Json.{HasNames, IsJson, array_at, number_at, uuid_at, whole_number}
use Rattle.sector_map.specs.Making.{HasSizes, IsMapFault}
use Rattle.common.specs.Limits.{MOST_TRIAL_BOOTS}
use Rattle.machine.specs.Intake.{Setup}
use Rattle.device_texts.specs.declared.device.DeviceFields.{DeviceFields}
use Rattle.device_texts.specs.declared.device.DeviceFile.{DeviceFile}
use Rattle.device_texts.specs.declared.device.DeviceFault.{DeviceFault}
use Rattle.device_texts.specs.declared.device.DeviceFault.TheVariants.{Malformed, Map, NoMemory}

-- The keys that a device file must have, in the order of their bytes.
abbrev pub device_keys : List (List ℕ)
device_keys =
    codes "class-id" ∷ codes "sector" ∷ codes "sectors" ∷ codes "vendor-id" ∷ []

-- The keys of a device file that also has the optional key.
abbrev pub device_keys_with_trial_boots : List (List ℕ)
device_keys_with_trial_boots =
    codes "class-id" ∷ codes "sector" ∷ codes "sectors" ∷ codes "trial-boots"
    ∷ codes "vendor-id" ∷ []

-- The value is an object with the keys of a device file and no other.
abbrev pub HasDeviceKeys : Data → Type 0
HasDeviceKeys value =
    HasNames device_keys value ⊎ HasNames device_keys_with_trial_boots value

-- The value is this number, which is below 2 ^ 32.
abbrev pub IsNumber : Data → ℕ → Type 0
IsNumber value number = (whole_number value ≡ Some number) × (number < 2 ^ 32)

-- A valid number of boots of a trial.
pub record IsFewBoots (boots : ℕ) : Type 0 where
  pub one : 1 ≤ boots
  pub few : boots ≤ MOST_TRIAL_BOOTS

-- The value gives this number of boots of a trial. It is 1 if the value doesn't have the key.
abbrev pub IsTrialBoots : Data → ℕ → Type 0
IsTrialBoots value boots =
    ((get (codes "trial-boots") value ≡ None) × (boots ≡ 1))
    ⊎ ((number_at (codes "trial-boots") value ≡ Some boots) × IsFewBoots boots)

-- The value spells these fields of a device, key by key.
pub record Spells (value : Data) (fields : DeviceFields) : Type 0 where
  pub keys : HasDeviceKeys value
  pub sector_size : number_at (codes "sector") value ≡ Some fields.sector_size
  pub sector_size_fits : fields.sector_size < 2 ^ 32
  pub sectors : IsSomeAnd (array_at (codes "sectors") value)
      (λ values. AllZip IsNumber values fields.sectors.items)
  pub vendor : uuid_at (codes "vendor-id") value ≡ Some fields.vendor
  pub class : uuid_at (codes "class-id") value ≡ Some fields.class
  pub trial_boots : IsTrialBoots value fields.trial_boots

-- Bytes are the JSON text of a value that spells these fields.
pub record IsDeviceText (bytes : List ℕ) (fields : DeviceFields) : Type 0 where
  pub value : Data
  pub json : IsJson bytes value
  pub spelled : Spells value fields

-- The device has these fields, the map of their sizes, and the number of images of that map.
pub record IsDeviceOf (fields : DeviceFields) (device : DeviceFile) : Type 0 where
  pub map : HasSizes fields.sector_size fields.sectors.items device.map
  pub vendor : device.identity.vendor ≡ fields.vendor
  pub class : device.identity.class ≡ fields.class
  pub images : device.identity.images ≡ device.map.images
  pub trial_boots : device.trial_boots ≡ fields.trial_boots

-- Each device of a device file has the number of images of its map, and a valid number of boots.
pub record IsOfFile (device : DeviceFile) : Type 0 where
  pub images : device.identity.images ≡ device.map.images
  pub boots : IsFewBoots device.trial_boots

-- The setup of the device of a file.
abbrev pub setup_of : DeviceFile → Setup
setup_of device = record { map = device.map; identity = device.identity; boots = device.trial_boots }

-- Bytes are the device file of a device.
abbrev pub IsDeviceFile : List ℕ → DeviceFile → Type 0
IsDeviceFile bytes device =
    (fields : DeviceFields) × IsDeviceText bytes fields × IsDeviceOf fields device

-- Why bytes aren't a device file: `Malformed` if they describe no device, or `Map` with the first
-- check that their sizes fail. `NoMemory` says nothing about the bytes.
abbrev pub IsDeviceFault : List ℕ → DeviceFault → Type 0
IsDeviceFault bytes Malformed = (fields : DeviceFields) × IsDeviceText bytes fields → ⊥
IsDeviceFault bytes (Map fault) = (fields : DeviceFields) × IsDeviceText bytes fields
    × IsMapFault fields.sector_size fields.sectors.items fault
IsDeviceFault bytes NoMemory = Unit {0}

-- Why nothing was read from a value: the value doesn't spell it, or memory ran out.
abbrev pub IsReadingFault : Type 0 → DeviceFault → Type 0
IsReadingFault Spelled Malformed = Spelled → ⊥
IsReadingFault Spelled (Map fault) = ⊥
IsReadingFault Spelled NoMemory = Unit {0}
