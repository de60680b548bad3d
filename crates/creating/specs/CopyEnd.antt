-- The result of `extract`.
use Rattle.std.specs.Prelude.{◌≡◌, ◌⊎◌, ℕ, ◌<◌, List, ◌++◌, Option}
use Rattle.std.specs.Io.KnownBytes.{Appends}
use Rattle.flash_model.specs.Chip.{Chip}
use Rattle.sector_map.specs.declared.layout.SectorMap.{SectorMap}
use Rattle.sector_map.specs.declared.layout.Side.{Side}
use Rattle.image_reading.specs.Codes.{code_of, name_of}
use Rattle.image_reading.specs.Fault.{IsFrontFault}
use Rattle.image_reading.specs.Image.{IsIntact}
use Rattle.image_reading.specs.Slot.{slot_bytes}
use Rattle.image_reading.specs.declared.desc.Desc.{Desc}
use Rattle.device_texts.specs.AnswerText.{refused_text}
use Rattle.device_texts.specs.DeviceFile.{IsDeviceFile}
use Rattle.device_texts.specs.FlashOf.{IsFlashOf, flash_of}
use Rattle.device_texts.specs.declared.device.DeviceFile.{DeviceFile}
use Rattle.host.specs.declared.answer.Answer.{Answer}
use Rattle.host.specs.declared.answer.Answer.TheVariants.{Done, Refused, Cut}
use Rattle.host.specs.declared.source.Source.{Source}
use Rattle.inputs.specs.DeviceInput.{RefusesMap}
use Rattle.host.specs.Input.{FileBytes, GiveBoth, IsKnownAs}
use Rattle.creating.specs.NewImageEnd.{done_text}
use Rattle.creating.specs.declared.extract.Copied.{Copied}
use Rattle.creating.specs.declared.extract.Copying.{Copying}
use Rattle.creating.specs.declared.extract.Copied.TheVariants as copied

-- The bytes of the slot to copy.
abbrev pub slot_to_copy : Copying → SectorMap → Chip → List ℕ
slot_to_copy copying map chip = slot_bytes map chip copying.image copying.side

-- A slot begins with these bytes, which are an intact image.
pub record IsImageOf (slot content : List ℕ) : Type 0 where
  pub rest : List ℕ
  pub description : Desc
  pub begins : slot ≡ content ++ rest
  pub intact : IsIntact content description

-- The result of copying an image out of its slot, and what a file is known to hold after it. Either
-- the file holds the image, or this is the first check that the slot's contents fail.
abbrev pub EndsCopy : Copied → SectorMap → Chip → ℕ → Side → Option (List ℕ) → Type 0
EndsCopy copied.Done map chip image side held =
    (content : List ℕ) × IsImageOf (slot_bytes map chip image side) content
    × IsKnownAs held content
EndsCopy (copied.Refused fault) map chip image side held =
    IsFrontFault (slot_bytes map chip image side) fault

-- The answer for this result, and the text that a writer took.
abbrev pub AnswersCopied : Answer → Copied → Option (List ℕ) → Option (List ℕ) → Type 0
AnswersCopied answer copied.Done old new = (answer ≡ Done) × Appends old new done_text
AnswersCopied answer (copied.Refused fault) old new =
    (answer ≡ Refused) × Appends old new (refused_text (code_of fault) (name_of fault))

-- `extract` read a device file and a flash. It copied the image of a slot into a file, or found why
-- there is none. It wrote which.
pub record CopiesImage (answer : Answer) (device flash : Source) (image : ℕ) (side : Side)
    (input : Option (List ℕ)) (files : FileBytes) (held old new : Option (List ℕ)) : Type 0 where
  pub device_bytes : List ℕ
  pub of_device : DeviceFile
  pub bytes : List ℕ
  pub outcome : Copied
  pub given : GiveBoth device flash input files device_bytes bytes
  pub is_device : IsDeviceFile device_bytes of_device
  pub is_flash : IsFlashOf of_device.map bytes
  pub there : image < of_device.map.images
  pub copied : EndsCopy outcome of_device.map (flash_of of_device.map bytes) image side held
  pub answered : AnswersCopied answer outcome old new

-- The answer of `extract`: it read the flash, or wrote why the sizes of the device file make no
-- map.
abbrev pub AnswersCopy : Answer → Source → Source → ℕ → Side → Option (List ℕ) → FileBytes
    → Option (List ℕ) → Option (List ℕ) → Option (List ℕ) → Type 0
AnswersCopy Done device flash image side input files held old new =
    CopiesImage Done device flash image side input files held old new
AnswersCopy Refused device flash image side input files held old new =
    CopiesImage Refused device flash image side input files held old new
    ⊎ RefusesMap device input files old new
AnswersCopy Cut device flash image side input files held old new = ⊥
