-- The result of `provision`.
use Rattle.std.specs.Prelude.{◌≡◌, ◌≢◌, ◌⊎◌, Bool, IfSome, IsTrue, ℕ, ◌+◌, ◌*◌, ◌≤◌, List, [], ◌∷◌, ◌++◌, length, replicate, slice_get, Option, Some, codes, true}
use Rattle.std.specs.Borrow.{Bor}
use Rattle.std.specs.Io.KnownBytes.{Appends, Keeps}
use Rattle.std.specs.List.{AllZip}
use Rattle.flash_model.specs.Chip.{Chip}
use Rattle.flash_model.specs.Torn.{replaced}
use Rattle.sector_map.specs.declared.layout.SectorMap.{SectorMap}
use Rattle.sector_map.specs.declared.layout.Side.TheVariants.{Primary}
use Rattle.sector_map.specs.Map.{length_of, sectors_of, start_of}
use Rattle.sector_map.specs.Part.{Slot}
use Rattle.boot_core.specs.Provisioned.{IsProvisioned, RefusesMaking}
use Rattle.host.specs.declared.answer.Answer.{Answer}
use Rattle.host.specs.declared.answer.Answer.TheVariants.{Done, Refused, Cut}
use Rattle.flash_model.specs.Units.{are_erased}
use Rattle.device_commands.specs.declared.provision.NewFlash.{NewFlash}
use Rattle.device_commands.specs.declared.provision.Provisioned.{Provisioned}
use Rattle.device_commands.specs.declared.provision.Provisioned.TheVariants as made
use Rattle.device_texts.specs.declared.device.DeviceFile.{DeviceFile}
use Rattle.host.specs.declared.source.Source.{Source}
use Rattle.device_texts.specs.DeviceFile.{IsDeviceFile}
use Rattle.device_texts.specs.FlashOf.{flash_of}
use Rattle.inputs.specs.DeviceInput.{RefusesMap}
use Rattle.host.specs.Input.{FileBytes, IsKnownAs, IsNamed}
use Rattle.host.specs.Inputs.{GiveEach}
use Rattle.device_texts.specs.ReplyText.{refused_fault_text}

-- The bytes of a flash after these files are put at the fronts of primary slots: the first file in
-- the slot of this image, the others in those of the next images.
abbrev pub with_files : SectorMap → ℕ → List (List ℕ) → List ℕ → List ℕ
with_files map image [] bytes = bytes
with_files map image (file ∷ files) bytes =
    with_files map (image + 1) files (replaced (start_of map (Slot image Primary)) file bytes)

-- The bytes of a new flash: each file is at the front of its primary slot, and all else is erased.
abbrev pub new_flash : SectorMap → List (List ℕ) → List ℕ
new_flash map files = with_files map 0 files (replicate (sectors_of map * map.sector_size) 0xff)

-- There is one file for each image, and each fits its slot.
pub record FitSlots (map : SectorMap) (files : List (List ℕ)) : Type 0 where
  pub count : length files ≡ map.images
  pub each : (i : ℕ) (file : List ℕ) → slice_get files i ≡ Some file
      → length file ≤ length_of map (Slot i Primary)

-- A file that is known to hold bytes is erased or has this length. An empty one is erased.
abbrev pub HoldsFlash : ℕ → Option (List ℕ) → Type 0
HoldsFlash long known = IfSome known (λ held. (are_erased held ≡ true) ⊎ (length held ≡ long))

-- A file may be replaced by a flash of this length: it holds a flash, or `--force` is given.
abbrev pub MayReplace : Bool → ℕ → Option (List ℕ) → Type 0
MayReplace forced long known = (forced ≡ true) ⊎ HoldsFlash long known

-- The result of provisioning the flash of these bytes, and what its file is known to hold before and
-- after it. Either the flash is a device's, and the file may be replaced and holds it; or the flash
-- is refused for this reason.
abbrev pub EndsMade : Provisioned → SectorMap → List ℕ → Bool → Option (List ℕ)
    → Option (List ℕ) → Type 0
EndsMade made.Done map bytes forced was held =
    (new : Chip) × IsProvisioned map (flash_of map bytes) new × IsKnownAs held new.bytes
    × MayReplace forced (length new.bytes) was
EndsMade (made.Refused fault) map bytes forced was held =
    (new : Chip) × RefusesMaking map (flash_of map bytes) new fault

-- Each file that these arguments name is apart from another.
abbrev pub AreOthers : (List ℕ → Bool) → List (Bor (List ℕ)) → Type 0
AreOthers apart words = (place : ℕ) (word : Bor (List ℕ)) → slice_get words place ≡ Some word
    → word.now ≢ codes "-" → IsTrue (apart word.now)

-- Each file that these arguments name keeps what it is known to hold.
abbrev pub KeepsWords : List (Bor (List ℕ)) → FileBytes → FileBytes → Type 0
KeepsWords words old new = (place : ℕ) (word : Bor (List ℕ)) → slice_get words place ≡ Some word
    → word.now ≢ codes "-" → Keeps (old word.now) (new word.now)

-- The answer of `provision` that is done.
abbrev pub done_text : List ℕ
done_text = codes "done" ++ 10 ∷ []

-- The answer for this result, and the text that a writer took.
abbrev pub AnswersMade : Answer → Provisioned → Option (List ℕ) → Option (List ℕ) → Type 0
AnswersMade answer made.Done old new = (answer ≡ Done) × Appends old new done_text
AnswersMade answer (made.Refused fault) old new =
    (answer ≡ Refused) × Appends old new (refused_fault_text fault)

-- The files of images were read, and they fit their slots. These are the bytes of their flash.
abbrev pub ReadsImages : SectorMap → List (List ℕ) → Option (List ℕ) → FileBytes → List ℕ → Type 0
ReadsImages map names input files bytes =
    (sources : List Source) × (contents : List (List ℕ)) × AllZip IsNamed names sources
    × GiveEach sources input files contents × FitSlots map contents
    × (bytes ≡ new_flash map contents)

-- `provision` read a device file and the images that these arguments name, and made their flash. It
-- provisioned the flash, which its file holds then, or found why the flash is refused. It wrote
-- which.
pub record MakesDevice (answer : Answer) (flash : NewFlash) (device : Source)
    (names : List (List ℕ)) (input : Option (List ℕ)) (files : FileBytes)
    (held old new : Option (List ℕ)) : Type 0 where
  pub device_bytes : List ℕ
  pub of_device : DeviceFile
  pub sources : List Source
  pub contents : List (List ℕ)
  pub outcome : Provisioned
  pub named : AllZip IsNamed names sources
  pub given : GiveEach (device ∷ sources) input files (device_bytes ∷ contents)
  pub is_device : IsDeviceFile device_bytes of_device
  pub fit : FitSlots of_device.map contents
  pub made : EndsMade outcome of_device.map (new_flash of_device.map contents) flash.is_forced
      (files flash.name.now) held
  pub answered : AnswersMade answer outcome old new

-- The answer of `provision`: it made a flash, which is a device's or refused; or it wrote why the
-- sizes of the device file make no map. In the second case the images don't matter.
abbrev pub AnswersProvision : Answer → NewFlash → Source → List (List ℕ) → Option (List ℕ)
    → FileBytes → Option (List ℕ) → Option (List ℕ) → Option (List ℕ) → Type 0
AnswersProvision Done flash device names input files held old new =
    MakesDevice Done flash device names input files held old new
AnswersProvision Refused flash device names input files held old new =
    MakesDevice Refused flash device names input files held old new
    ⊎ RefusesMap device input files old new
AnswersProvision Cut flash device names input files held old new = ⊥
