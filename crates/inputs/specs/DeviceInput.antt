-- What the commands on a device read: its device file, and the bytes of its flash.
use Rattle.std.specs.Prelude.{◌≡◌, ℕ, List, Option, None, Some, Result, Ok, Err}
use Rattle.std.specs.Io.KnownBytes.{Appends}
use Rattle.sector_map.specs.declared.error.MapError.{MapError}
use Rattle.device_texts.specs.declared.device.DeviceFault.TheVariants as fault
use Rattle.device_texts.specs.declared.device.DeviceFile.{DeviceFile}
use Rattle.host.specs.declared.source.Source.{Source}
use Rattle.inputs.specs.declared.device_input.BadMap.{BadMap}
use Rattle.device_texts.specs.AnswerText.{map_refusal_text}
use Rattle.device_texts.specs.DeviceFile.{IsDeviceFault, IsDeviceFile}
use Rattle.host.specs.declared.host.Access.{Access}
use Rattle.host.specs.declared.source.Source.TheVariants.{StandardInput, File}
use Rattle.host.specs.Doings.{IsOpenedFor, Openings}
use Rattle.host.specs.Input.{FileBytes, Gives}

-- The source contains the device file of this device.
abbrev pub GivesDevice : Source → Option (List ℕ) → FileBytes → DeviceFile → Type 0
GivesDevice source input files device =
    (bytes : List ℕ) × Gives source input files bytes × IsDeviceFile bytes device

-- The source contains a device file with this text, whose sizes make no map for this reason.
abbrev pub GivesNoMap : Source → Option (List ℕ) → FileBytes → BadMap → Type 0
GivesNoMap source input files bad =
    Gives source input files bad.text.items × IsDeviceFault bad.text.items (fault.Map bad.fault)

-- The result of reading a device file: a device, or why the sizes in the file make no map.
abbrev pub GivesDeviceOrFault : Result DeviceFile BadMap → Source → Option (List ℕ)
    → FileBytes → Type 0
GivesDeviceOrFault (Ok device) source input files = GivesDevice source input files device
GivesDeviceOrFault (Err bad) source input files = GivesNoMap source input files bad

-- The source contains a device file whose sizes make no map, and the reason was appended to the
-- output.
abbrev pub RefusesMap : Source → Option (List ℕ) → FileBytes
    → Option (List ℕ) → Option (List ℕ) → Type 0
RefusesMap source input files old new =
    (bytes : List ℕ) × (refused : MapError) × Gives source input files bytes
    × IsDeviceFault bytes (fault.Map refused) × Appends old new (map_refusal_text refused)

-- The result of reading a device file. It is either a device, and the output is unchanged; or none,
-- because the sizes in the file make no map.
abbrev pub ReadsDevice : Option DeviceFile → Source → Option (List ℕ) → FileBytes
    → Option (List ℕ) → Option (List ℕ) → Type 0
ReadsDevice (Some device) source input files old new =
    GivesDevice source input files device × (new ≡ old)
ReadsDevice None source input files old new = RefusesMap source input files old new

-- How a host opened the file of a flash that was read: for this access. It opened none if the flash
-- is standard input.
abbrev pub OpensFlash : Access → Source → Openings → Openings → Type 0
OpensFlash access StandardInput old new = new ≡ old
OpensFlash access (File name) old new = IsOpenedFor access old new
