-- The result of `make-manifest`.
use Rattle.std.specs.Prelude.{◌≡◌, ◌⊎◌, ℕ, true, ◌<◌, All, Any, List, [], ◌∷◌, ◌++◌, length, map, option_to_list, slice_index_or, take, Option, Some, None}
use Rattle.std.specs.Io.KnownBytes.{Appends}
use Rattle.std.specs.List.{AllZip}
use Rattle.sha2.specs.Sha256.{sha256}
use Rattle.flash_model.specs.Chip.{Chip}
use Rattle.sector_map.specs.declared.layout.SectorMap.{SectorMap}
use Rattle.sector_map.specs.declared.layout.Side.TheVariants.{Primary}
use Rattle.manifest.specs.Codes.{code_of, name_of}
use Rattle.manifest.specs.Fault.{IsManifest}
use Rattle.manifest.specs.declared.error.ManifestError.{ManifestError}
use Rattle.manifest.specs.declared.error.ManifestError.TheVariants.{NoComponent, RepeatedComponent}
use Rattle.manifest.specs.declared.manifest.Component.{Component}
use Rattle.manifest.specs.declared.manifest.Manifest.{Manifest}
use Rattle.image_reading.specs.Image.{BeginsIntact}
use Rattle.image_reading.specs.Slot.{slot_bytes}
use Rattle.image_reading.specs.declared.desc.Desc.{Desc}
use Rattle.machine.specs.declared.error.Fault.TheVariants.{RunningDamaged}
use Rattle.device_texts.specs.AnswerText.{refused_text}
use Rattle.device_texts.specs.DeviceFile.{IsDeviceFile}
use Rattle.device_texts.specs.FlashOf.{IsFlashOf, flash_of}
use Rattle.device_texts.specs.ReplyText.{refused_fault_text}
use Rattle.device_texts.specs.declared.device.DeviceFile.{DeviceFile}
use Rattle.command_line.specs.declared.orders.NewComponent.{NewComponent}
use Rattle.command_line.specs.declared.orders.NewManifest.{NewManifest}
use Rattle.host.specs.declared.answer.Answer.{Answer}
use Rattle.host.specs.declared.answer.Answer.TheVariants.{Done, Refused, Cut}
use Rattle.host.specs.declared.source.Source.{Source}
use Rattle.inputs.specs.DeviceInput.{GivesDevice, RefusesMap}
use Rattle.host.specs.Input.{FileBytes, IsNamed}
use Rattle.host.specs.Inputs.{GiveEach, names_of}

-- The names of the files to upload.
abbrev pub file_names : List NewComponent → List (List ℕ)
file_names asked = map (λ component. component.file.now) asked

-- The name of the flash whose running images the manifest requires, if there is one.
abbrev pub flash_names : NewManifest → List (List ℕ)
flash_names asked = names_of (option_to_list asked.precursor)

-- A flash was read, with these bytes, or none was.
abbrev pub IsFlashIn : SectorMap → List (List ℕ) → Option Chip → Type 0
IsFlashIn map [] None = Unit {0}
IsFlashIn map (bytes ∷ []) (Some chip) = IsFlashOf map bytes × (chip ≡ flash_of map bytes)
IsFlashIn map contents flash = ⊥

-- This digest is that of the intact image that runs on the flash. Without a flash there is none.
abbrev pub IsPrecursor : SectorMap → Option Chip → ℕ → Option (List ℕ) → Type 0
IsPrecursor map None image precursor = precursor ≡ None
IsPrecursor map (Some chip) image precursor =
    (description : Desc) × BeginsIntact (slot_bytes map chip image Primary) description
    × (precursor ≡ Some description.digest)

-- A component has the image and the kind of the arguments. If a flash was read, its precursor is
-- the image that runs there.
pub record IsAskedFor (map : SectorMap) (flash : Option Chip) (asked : NewComponent)
    (component : Component) : Type 0 where
  pub image : component.image ≡ asked.image
  pub permanent : component.permanent ≡ asked.permanent
  pub precursor : IsPrecursor map flash asked.image component.precursor

-- A component admits these bytes: it has their length and their digest.
pub record LetsCome (content : List ℕ) (component : Component) : Type 0 where
  pub size : component.size ≡ length content
  pub digest : component.digest ≡ sha256 content

-- `make-manifest` read a device file, the flash if one is given, and the files to upload. It wrote
-- a text that is a manifest for the device, with the arguments' values, and admits these files.
pub record WritesManifest (device : Source) (asked : NewManifest) (input : Option (List ℕ))
    (files : FileBytes) (old new : Option (List ℕ)) : Type 0 where
  pub device_bytes : List ℕ
  pub of_device : DeviceFile
  pub flash : Option Chip
  pub flash_sources : List Source
  pub flash_contents : List (List ℕ)
  pub sources : List Source
  pub contents : List (List ℕ)
  pub manifest : Manifest
  pub text : List ℕ
  pub flash_named : AllZip IsNamed (flash_names asked) flash_sources
  pub named : AllZip IsNamed (file_names asked.components.items) sources
  pub given : GiveEach (device ∷ flash_sources ++ sources) input files
      (device_bytes ∷ flash_contents ++ contents)
  pub is_device : IsDeviceFile device_bytes of_device
  pub is_flash : IsFlashIn of_device.map flash_contents flash
  pub sequence : manifest.sequence ≡ asked.sequence
  pub asked_for : AllZip (IsAskedFor of_device.map flash) asked.components.items
      manifest.components.items
  pub come : AllZip LetsCome contents manifest.components.items
  pub is_manifest : IsManifest of_device.identity text manifest
  pub told : Appends old new text

-- Each file is for an image that the device has.
abbrev pub HaveImages : ℕ → List NewComponent → Type 0
HaveImages images asked = All (λ component. component.image < images) asked

-- Two files are for the same image.
abbrev pub Repeats : List NewComponent → Type 0
Repeats asked =
    (place : ℕ) × (component : NewComponent) × (place < length asked)
    × (slice_index_or asked place component ≡ component)
    × Any (λ other. other.image ≡ component.image) (take place asked)

-- Why there is no manifest of these files for a device with this number of images.
abbrev pub IsFault : ℕ → List NewComponent → ManifestError → Type 0
IsFault images asked NoComponent = HaveImages images asked → ⊥
IsFault images asked RepeatedComponent = HaveImages images asked × Repeats asked
IsFault images asked other = ⊥

-- `make-manifest` wrote the lowest refusal that applies to the arguments.
abbrev pub RefusesAsked : Source → NewManifest → Option (List ℕ) → FileBytes
    → Option (List ℕ) → Option (List ℕ) → Type 0
RefusesAsked device asked input files old new =
    (of_device : DeviceFile) × (fault : ManifestError) × GivesDevice device input files of_device
    × IsFault of_device.map.images asked.components.items fault
    × Appends old new (refused_text (code_of fault) (name_of fault))

-- `make-manifest` wrote that an image isn't intact on the flash, which a file is for.
pub record RefusesRunning (device : Source) (asked : NewManifest) (input : Option (List ℕ))
    (files : FileBytes) (old new : Option (List ℕ)) : Type 0 where
  pub device_bytes : List ℕ
  pub of_device : DeviceFile
  pub flash_sources : List Source
  pub bytes : List ℕ
  pub image : ℕ
  pub flash_named : AllZip IsNamed (flash_names asked) flash_sources
  pub given : GiveEach (device ∷ flash_sources) input files (device_bytes ∷ bytes ∷ [])
  pub is_device : IsDeviceFile device_bytes of_device
  pub is_flash : IsFlashOf of_device.map bytes
  pub asked_for : Any (λ component. component.image ≡ image) asked.components.items
  pub damaged : (description : Desc)
      → BeginsIntact (slot_bytes of_device.map (flash_of of_device.map bytes) image Primary)
      description → ⊥
  pub told : Appends old new (refused_fault_text (RunningDamaged image))

-- `make-manifest` wrote the manifest, and `--strict` is given. So the answer may be `Refused`.
abbrev pub WritesStrictly : Source → NewManifest → Option (List ℕ) → FileBytes
    → Option (List ℕ) → Option (List ℕ) → Type 0
WritesStrictly device asked input files old new =
    (asked.is_strict ≡ true) × WritesManifest device asked input files old new

abbrev pub AnswersNewManifest : Answer → Source → NewManifest → Option (List ℕ) → FileBytes
    → Option (List ℕ) → Option (List ℕ) → Type 0
AnswersNewManifest Done device asked input files old new =
    WritesManifest device asked input files old new
AnswersNewManifest Refused device asked input files old new =
    RefusesMap device input files old new ⊎ RefusesAsked device asked input files old new
    ⊎ RefusesRunning device asked input files old new
    ⊎ WritesStrictly device asked input files old new
AnswersNewManifest Cut device asked input files old new = ⊥

-- Notes were written.
abbrev pub Notes : Option (List ℕ) → Option (List ℕ) → Type 0
Notes old new = (notes : List ℕ) × (0 < length notes) × Appends old new notes

-- What standard error got with this answer. With `--strict`, `Done` means that there was no note. And
-- `Refused` means that there was one, if no refusal was printed.
abbrev pub EndsNoted : Answer → Source → NewManifest → Option (List ℕ) → FileBytes
    → Option (List ℕ) → Option (List ℕ) → Option (List ℕ) → Option (List ℕ) → Type 0
EndsNoted Done device asked input files old new err_old err_new =
    asked.is_strict ≡ true → Appends err_old err_new []
EndsNoted Refused device asked input files old new err_old err_new =
    RefusesMap device input files old new ⊎ RefusesAsked device asked input files old new
    ⊎ RefusesRunning device asked input files old new ⊎ Notes err_old err_new
EndsNoted Cut device asked input files old new err_old err_new = ⊥
