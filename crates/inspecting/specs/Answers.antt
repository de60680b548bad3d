-- What the read-only commands find in the sources that their hosts hold.
use Rattle.std.specs.Prelude.{◌≡◌, ℕ, List, Option, Result, Ok, Err}
use Rattle.flash_model.specs.Chip.{Chip}
use Rattle.sector_map.specs.declared.layout.SectorMap.{SectorMap}
use Rattle.device_texts.specs.DeviceFile.{IsDeviceFile}
use Rattle.device_texts.specs.FlashOf.{IsFlashOf, flash_of}
use Rattle.device_texts.specs.declared.device.DeviceFile.{DeviceFile}
use Rattle.host.specs.Input.{FileBytes, Gives, GiveBoth}
use Rattle.host.specs.declared.source.Source.{Source}
use Rattle.inputs.specs.declared.device_input.BadMap.{BadMap}
use Rattle.inputs.specs.DeviceInput.{GivesNoMap}
use Rattle.inspecting.specs.Check.{IsVerdict}
use Rattle.inspecting.specs.Choose.{IsChoiceIn}
use Rattle.inspecting.specs.Describe.{IsDescribed}
use Rattle.inspecting.specs.ManifestFile.{IsManifestRead}
use Rattle.inspecting.specs.declared.device_flash.DeviceFlash.{DeviceFlash}
use Rattle.inspecting.specs.declared.inspection.Inspection.{Inspection}
use Rattle.inspecting.specs.declared.inspection.Inspection.TheVariants as found

-- `choose` reads a table, and finds the right report on it.
abbrev pub FindsChoice : Source → Option (List ℕ) → FileBytes → Inspection → Type 0
FindsChoice table input files it =
    (bytes : List ℕ) × Gives table input files bytes × IsChoiceIn bytes it

-- `image` reads an image, and finds its description, or the first check that fails.
abbrev pub FindsDescription : Source → Option (List ℕ) → FileBytes → Inspection → Type 0
FindsDescription image input files it =
    (bytes : List ℕ) × Gives image input files bytes × IsDescribed bytes it

-- `check` reads a table and a report, and finds whether the report is right for the table.
abbrev pub FindsVerdict : Source → Source → Option (List ℕ) → FileBytes → Inspection → Type 0
FindsVerdict table report input files it =
    (table_bytes : List ℕ) × (report_bytes : List ℕ)
    × GiveBoth table report input files table_bytes report_bytes
    × IsVerdict table_bytes report_bytes it

-- A device file and a second source were read. The device and the bytes of the second source have
-- this property.
abbrev pub HoldsOfBoth : Source → Source → Option (List ℕ) → FileBytes
    → (DeviceFile → List ℕ → Type 0) → Type 0
HoldsOfBoth device second input files holds =
    (device_bytes : List ℕ) × (bytes : List ℕ) × (of_device : DeviceFile)
    × GiveBoth device second input files device_bytes bytes × IsDeviceFile device_bytes of_device
    × holds of_device bytes

-- The same, of what is found; or the sizes of the device file make no map, and the file is found. Then
-- the second source doesn't matter.
abbrev pub FindsForDevice : Source → Source → Option (List ℕ) → FileBytes
    → (DeviceFile → List ℕ → Inspection → Type 0) → Inspection → Type 0
FindsForDevice device second input files holds (found.RefusedMap refused) =
    GivesNoMap device input files refused
FindsForDevice device second input files holds it =
    HoldsOfBoth device second input files (λ of_device bytes. holds of_device bytes it)

-- `manifest` reads a device file and a manifest, and finds what the manifest contains, or the lowest
-- refusal that applies.
abbrev pub FindsManifest : Source → Source → Option (List ℕ) → FileBytes → Inspection → Type 0
FindsManifest device file input files it =
    FindsForDevice device file input files
    (λ of_device bytes found. IsManifestRead of_device.identity bytes found) it

-- A command reads a device file and the flash of the device, and finds this on the flash.
abbrev pub FindsOnFlash : (SectorMap → Chip → Inspection → Type 0) → Source → Source
    → Option (List ℕ) → FileBytes → Inspection → Type 0
FindsOnFlash is_found device flash input files it =
    FindsForDevice device flash input files
    (λ of_device bytes found. IsFlashOf of_device.map bytes
    × is_found of_device.map (flash_of of_device.map bytes) found) it

-- A device file and the flash of its device were read; or a device file whose sizes make no map.
abbrev pub ReadsDeviceFlash : Result DeviceFlash BadMap → Source → Source → Option (List ℕ)
    → FileBytes → Type 0
ReadsDeviceFlash (Ok read) device flash input files =
    (device_bytes : List ℕ) × GiveBoth device flash input files device_bytes read.bytes.items
    × IsDeviceFile device_bytes read.device × IsFlashOf read.device.map read.bytes.items
ReadsDeviceFlash (Err refused) device flash input files =
    GivesNoMap device input files refused
