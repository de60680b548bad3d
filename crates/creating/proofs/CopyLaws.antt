-- The image that a slot begins with, its bytes on the flash, and the result of copying it.
use Rattle.std.proofs.Common.{◌≡◌, ◌≢◌, ◌∙◌, ℕ, ◌+◌, ◌-◌, ◌<◌, ◌≤◌, List, ◌++◌, Bool, Option, ap, append-nil, arith, length, length-append, inl, refl, subst, sym, take}
use Rattle.std.specs.Prelude.{Err, IfErr, IfOk, Ok, Result, slice_range}
use Rattle.std.proofs.KnownBytes.{Appends-kept}
use Rattle.std.specs.Io.KnownBytes.{Keeps}
use Rattle.std.proofs.lemmas.List.{take-append-le, take_all}
use Rattle.flash_model.specs.Chip.{Chip}
use Rattle.sector_map.specs.declared.layout.SectorMap.{SectorMap}
use Rattle.sector_map.specs.declared.layout.Side.{Side}
use Rattle.sector_map.specs.Map.{IsLaidOut, start_of}
use Rattle.sector_map.specs.Part.{Slot}
use Rattle.sector_map.proofs.PartBytes.{length_part, part_inside, range_of_part}
use Rattle.image_reading.specs.Image.{BeginsIntact, IsIntact, image_bytes}
use Rattle.image_reading.specs.Slot.{slot_bytes}
use Rattle.image_reading.specs.declared.desc.Desc.{Desc}
use Rattle.device_texts.specs.FlashOf.{IsFlashOf, flash_of}
use Rattle.device_texts.specs.declared.device.DeviceFile.{DeviceFile}
use Rattle.host.specs.declared.answer.Answer.{Answer}
use Rattle.host.specs.declared.answer.Answer.TheVariants.{Done, Refused, Cut}
use Rattle.host.specs.declared.error.Refusal.{Refusal}
use Rattle.host.specs.declared.error.Refusal.TheVariants as no
use Rattle.host.specs.declared.source.Source.{Source}
use Rattle.inputs.specs.DeviceInput.{GivesDevice}
use Rattle.host.specs.Input.{FileBytes, Gives, KeepsFiles, KeepsOthers}
use Rattle.host.specs.Doings.{IsApartFrom, KeepsApart, KeepsSource}
use Rattle.host.proofs.InputLaws.{GiveBoth-read, KeepsSource-apart, KeepsSource-kept}
use Rattle.creating.specs.CopyEnd.{AnswersCopied, AnswersCopy, CopiesImage, EndsCopy, IsImageOf}
use Rattle.command_line.specs.declared.orders.NewFile.{NewFile}
use Rattle.creating.specs.NewFileEnd.{MayReplace, Replaces}
use Rattle.host.specs.Status.{EndsUnmade}
use Rattle.creating.proofs.NewFileLaws.{Replaces-before}
use Rattle.creating.specs.declared.extract.Copied.{Copied}
use Rattle.creating.specs.declared.extract.Copied.TheVariants as copied

-- The length of an intact image is the one of its description.
intact_long : (bytes : List ℕ) (description : Desc) → IsIntact bytes description → length bytes ≡ description.length
intact_long bytes description intact =
    ap (λ all. length all) (intact.1.parts ∙ append-nil (image_bytes intact.0)) ∙ sym intact.2.length_of

-- The image that a slot begins with isn't longer than the slot.
pub image_fits : (slot : List ℕ) (description : Desc) → BeginsIntact slot description
    → description.length ≤ length slot
image_fits slot description begins =
    let long : length slot ≡ length begins.0 + length begins.1 =
    ap (λ all. length all) begins.2 ∙ length-append begins.0 begins.1 in
    omega (arith, long, intact_long begins.0 description begins.3)

-- The first bytes of a slot, up to the length of the image that it begins with, are that image.
pub image_front : (slot : List ℕ) (description : Desc) → BeginsIntact slot description
    → IsImageOf slot (slice_range slot 0 description.length)
image_front slot description begins =
    let long = intact_long begins.0 description begins.3 in
    let whole : description.length - 0 ≡ description.length = omega arith in
    let front : slice_range slot 0 description.length ≡ begins.0 =
    ap (λ all. slice_range all 0 description.length) begins.2
    ∙ ap (λ n. take n (begins.0 ++ begins.1)) whole
    ∙ take-append-le description.length begins.0 begins.1 (omega (arith, long))
    ∙ take_all description.length begins.0 (omega (arith, long)) in
    rw front (record { rest = begins.1; description = description; begins = begins.2; intact = begins.3 })

-- The first bytes of a slot lie in the flash.
pub copy_inside : (map : SectorMap) (chip : Chip) (image : ℕ) (side : Side) (long : ℕ) → IsLaidOut map chip
    → image < map.images → long ≤ length (slot_bytes map chip image side)
    → start_of map (Slot image side) + long ≤ length chip.bytes
copy_inside map chip image side long laid there fits =
    let inside = part_inside map chip (Slot image side) laid (laid.is_map.counts.some image there) in
    omega (arith, inside, laid.whole, length_part map chip (Slot image side) laid, fits)

-- The first bytes of a slot are those of the flash from the slot's start on.
pub copy_is : (map : SectorMap) (chip : Chip) (image : ℕ) (side : Side) (long : ℕ) → IsLaidOut map chip
    → long ≤ length (slot_bytes map chip image side)
    → slice_range chip.bytes (start_of map (Slot image side)) (start_of map (Slot image side) + long)
    ≡ slice_range (slot_bytes map chip image side) 0 long
copy_is map chip image side long laid fits =
    let start = start_of map (Slot image side) in
    let zero : start ≡ start + 0 = omega arith in
    ap (λ from. slice_range chip.bytes from (start + long)) zero
    ∙ sym (range_of_part map chip (Slot image side) 0 long laid
    (omega (arith, length_part map chip (Slot image side) laid, fits)))

-- If all files were kept, two inputs were.
pub both_kept : (device flash : Source) (old new : FileBytes) → KeepsFiles old new
    → KeepsSource device old new × KeepsSource flash old new
both_kept device flash old new kept =
    (KeepsSource-kept device old new kept, KeepsSource-kept flash old new kept)

-- If then a file apart from the inputs was replaced, both inputs were still kept.
pub both_apart : (device flash : Source) (name : List ℕ) (apart : List ℕ → List ℕ → Bool) (old mid new : FileBytes)
    → KeepsFiles old mid → IsApartFrom apart name device → IsApartFrom apart name flash
    → KeepsApart (apart name) mid new → KeepsSource device old new × KeepsSource flash old new
both_apart device flash name apart old mid new kept first second after = (
  KeepsSource-apart device name apart old mid new kept first after,
  KeepsSource-apart flash name apart old mid new kept second after,
)

-- If no image was copied, all files were kept, whatever was written.
pub copied_told : (told : Result Answer Refusal) (outcome : Copied) (mid new : FileBytes) (old_out new_out : Option (List ℕ))
    → IfOk told (λ answer. AnswersCopied answer outcome old_out new_out)
    → (outcome ≡ copied.Done → IfErr told (λ refusal. refusal ≡ no.CannotWrite))
    → (outcome ≢ copied.Done → KeepsFiles mid new) → EndsUnmade told → KeepsFiles mid new
copied_told told (copied.Refused fault) mid new old_out new_out answers late kept ends = kept (λ done. absurd (cc done))
copied_told (Ok Done) copied.Done mid new old_out new_out answers late kept ends = absurd ends
copied_told (Ok Refused) copied.Done mid new old_out new_out answers late kept ends = absurd (cc answers.0)
copied_told (Ok Cut) copied.Done mid new old_out new_out answers late kept ends = absurd (cc answers.0)
copied_told (Err refusal) copied.Done mid new old_out new_out answers late kept ends =
    absurd (subst (λ one. EndsUnmade (Err one)) (late refl) ends)

-- If the image was copied, its file could be replaced.
pub copied_replaces : (answer : Answer) (outcome : Copied) (file : NewFile) (old mid : FileBytes)
    (old_out new_out : Option (List ℕ)) → KeepsFiles old mid
    → (outcome ≡ copied.Done → MayReplace file.is_forced (mid file.name.now))
    → AnswersCopied answer outcome old_out new_out → Replaces answer file old
copied_replaces Done copied.Done file old mid old_out new_out kept may told =
    Replaces-before Done file old mid kept (may refl)
copied_replaces Done (copied.Refused fault) file old mid old_out new_out kept may told = absurd (cc told.0)
copied_replaces Refused outcome file old mid old_out new_out kept may told = tt
copied_replaces Cut outcome file old mid old_out new_out kept may told = tt

-- No answer of `extract` is `Cut`.
never_cut : (outcome : Copied) (old new : Option (List ℕ)) → AnswersCopied Cut outcome old new → ⊥
never_cut copied.Done old new told = cc told.0
never_cut (copied.Refused fault) old new told = cc told.0

-- What was copied gives an answer of `extract`.
AnswersCopy-of : (answer : Answer) (device flash : Source) (image : ℕ) (side : Side) (input : Option (List ℕ))
    (files : FileBytes) (held old new : Option (List ℕ)) → CopiesImage answer device flash image side input files held old new
    → AnswersCopy answer device flash image side input files held old new
AnswersCopy-of Done device flash image side input files held old new copies = copies
AnswersCopy-of Refused device flash image side input files held old new copies = inl copies
AnswersCopy-of Cut device flash image side input files held old new copies =
    absurd (never_cut copies.outcome old new copies.answered)

-- The answer after a device file and a flash were read.
pub copied_image : (answer : Answer) (device flash : Source) (image : ℕ) (side : Side) (input mid_input : Option (List ℕ))
    (files mid_files : FileBytes) (held old mid new : Option (List ℕ)) (of_device : DeviceFile) (bytes : List ℕ)
    (outcome : Copied) → GivesDevice device input files of_device → mid ≡ old
    → KeepsOthers device input files mid_input mid_files → Gives flash mid_input mid_files bytes
    → IsFlashOf of_device.map bytes → image < of_device.map.images
    → EndsCopy outcome of_device.map (flash_of of_device.map bytes) image side held
    → AnswersCopied answer outcome mid new → AnswersCopy answer device flash image side input files held old new
copied_image answer device flash image side input mid_input files mid_files held old mid new of_device bytes outcome
    read same kept gives whole there ends told =
    AnswersCopy-of answer device flash image side input files held old new (record {
      device_bytes = read.0;
      of_device = of_device;
      bytes = bytes;
      outcome = outcome;
      given = GiveBoth-read device flash input mid_input files mid_files read.0 bytes read.1 kept gives;
      is_device = read.2;
      is_flash = whole;
      there = there;
      copied = ends;
      answered = subst (λ before. AnswersCopied answer outcome before new) same told;
    })

-- A flush after the answer changes nothing.
copied_kept : (outcome : Copied) (old mid new : Option (List ℕ)) → AnswersCopied Done outcome old mid → Keeps mid new
    → AnswersCopied Done outcome old new
copied_kept copied.Done old mid new answered kept = (answered.0, Appends-kept old mid new _ answered.1 kept)
copied_kept (copied.Refused fault) old mid new answered kept = (answered.0, Appends-kept old mid new _ answered.1 kept)

pub AnswersCopy-kept : (device flash : Source) (image : ℕ) (side : Side) (input : Option (List ℕ)) (files : FileBytes)
    (held old mid new : Option (List ℕ)) → AnswersCopy Done device flash image side input files held old mid
    → Keeps mid new → AnswersCopy Done device flash image side input files held old new
AnswersCopy-kept device flash image side input files held old mid new answered kept = record {
  device_bytes = answered.device_bytes;
  of_device = answered.of_device;
  bytes = answered.bytes;
  outcome = answered.outcome;
  given = answered.given;
  is_device = answered.is_device;
  is_flash = answered.is_flash;
  there = answered.there;
  copied = answered.copied;
  answered = copied_kept answered.outcome old mid new answered.answered kept;
}
