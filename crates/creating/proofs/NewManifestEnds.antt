-- The result of `make-manifest`, from the results of its steps.
use Rattle.std.proofs.Common.{◌≡◌, ◌==◌, ◌<◌, ◌∙◌, ℕ, Bool, List, [], ◌∷◌, ◌++◌, Option, ap, arith, false, length, refl, subst, suc, sym, true}
use Rattle.std.proofs.KnownBytes.{Appends-kept}
use Rattle.std.proofs.lemmas.Bool.{eqb-false, eqb-true}
use Rattle.std.specs.Io.KnownBytes.{Appends, Keeps}
use Rattle.manifest.specs.Codes.{code_of, name_of}
use Rattle.manifest.specs.declared.error.ManifestError.{ManifestError}
use Rattle.machine.specs.declared.error.Fault.TheVariants.{RunningDamaged}
use Rattle.sector_map.specs.declared.layout.SectorMap.{SectorMap}
use Rattle.flash_model.specs.Chip.{Chip}
use Rattle.device_texts.specs.AnswerText.{refused_text}
use Rattle.device_texts.specs.ReplyText.{refused_fault_text}
use Rattle.device_texts.specs.declared.device.DeviceFile.{DeviceFile}
use Rattle.command_line.specs.declared.orders.NewComponent.{NewComponent}
use Rattle.command_line.specs.declared.orders.NewManifest.{NewManifest}
use Rattle.host.specs.declared.answer.Answer.TheVariants.{Done}
use Rattle.host.specs.declared.source.Source.{Source}
use Rattle.inputs.specs.DeviceInput.{GivesDevice}
use Rattle.host.specs.Input.{FileBytes, KeepsOthers}
use Rattle.host.proofs.InputLaws.{GiveEach-read}
use Rattle.creating.specs.NewManifestEnd.{AnswersNewManifest, IsFault, Notes, RefusesAsked, RefusesRunning, WritesManifest}
use Rattle.creating.specs.NewManifestSteps.{ArePrecursors, ReadsDamaged, ReadsFlash, Writes, WritesNotes}
use Rattle.creating.proofs.NewManifestLaws.{asked_for}

-- There is one precursor for each file.
pub precursor_count : (map : SectorMap) (flash : Option Chip) (asked : List NewComponent)
    (precursors : List (Option (List ℕ))) → ArePrecursors map flash asked precursors
    → length precursors ≡ length asked
precursor_count map flash [] [] are = refl
precursor_count map flash [] (y ∷ precursors) are = absurd are
precursor_count map flash (x ∷ asked) [] are = absurd are
precursor_count map flash (x ∷ asked) (y ∷ precursors) are = ap suc (precursor_count map flash asked precursors are.1)

-- The device file was read, and the arguments were refused.
pub asked_refused : (device : Source) (asked : NewManifest) (input : Option (List ℕ)) (files : FileBytes)
    (old mid new : Option (List ℕ)) (of_device : DeviceFile) (fault : ManifestError) (components : List NewComponent)
    → GivesDevice device input files of_device → mid ≡ old → components ≡ asked.components.items
    → IsFault of_device.map.images components fault
    → Appends mid new (refused_text (code_of fault) (name_of fault))
    → RefusesAsked device asked input files old new
asked_refused device asked input files old mid new of_device fault components read same all is told = (
  of_device,
  fault,
  read,
  subst (λ files. IsFault of_device.map.images files fault) all is,
  subst (λ before. Appends before new (refused_text (code_of fault) (name_of fault))) same told,
)

-- The device file was read, and then the flash, on which an image isn't intact.
pub running_refused : (device : Source) (asked : NewManifest) (input mid_input : Option (List ℕ))
    (files mid_files : FileBytes) (old mid new : Option (List ℕ)) (of_device : DeviceFile) (image : ℕ)
    → GivesDevice device input files of_device → mid ≡ old → KeepsOthers device input files mid_input mid_files
    → ReadsDamaged of_device.map asked mid_input mid_files image
    → Appends mid new (refused_fault_text (RunningDamaged image))
    → RefusesRunning device asked input files old new
running_refused device asked input mid_input files mid_files old mid new of_device image read same kept damaged told = record {
  device_bytes = read.0;
  of_device = of_device;
  flash_sources = damaged.sources;
  bytes = damaged.bytes;
  image = image;
  flash_named = damaged.named;
  given = GiveEach-read device damaged.sources input mid_input files mid_files read.0 (damaged.bytes ∷ []) read.1 kept damaged.given;
  is_device = read.2;
  is_flash = damaged.is_flash;
  asked_for = damaged.asked_for;
  damaged = damaged.damaged;
  told = subst (λ before. Appends before new (refused_fault_text (RunningDamaged image))) same told;
}

-- The device file was read, then the flash if one is given, and then the files. The manifest was
-- written.
pub written : (device : Source) (asked : NewManifest) (input mid_input far_input : Option (List ℕ))
    (files mid_files far_files : FileBytes) (old mid new : Option (List ℕ)) (of_device : DeviceFile)
    (precursors follow : List (Option (List ℕ)))
    → GivesDevice device input files of_device → mid ≡ old → KeepsOthers device input files mid_input mid_files
    → ReadsFlash of_device.map asked mid_input mid_files far_input far_files precursors
    → follow ≡ precursors → Writes of_device asked follow far_input far_files mid new
    → WritesManifest device asked input files old new
written device asked input mid_input far_input files mid_files far_files old mid new of_device precursors follow
    read same kept flash lent writes =
    let reads = writes.reads in
    record {
      device_bytes = read.0;
      of_device = of_device;
      flash = flash.flash;
      flash_sources = flash.sources;
      flash_contents = flash.contents;
      sources = reads.sources;
      contents = reads.contents;
      manifest = writes.manifest;
      text = writes.text;
      flash_named = flash.named;
      named = reads.named;
      given = GiveEach-read device (flash.sources ++ reads.sources) input mid_input files mid_files read.0
          (flash.contents ++ reads.contents) read.1 kept (flash.before reads.sources reads.contents reads.given);
      is_device = read.2;
      is_flash = flash.is_flash;
      sequence = writes.sequence;
      asked_for = asked_for of_device.map flash.flash asked.components.items writes.manifest.components.items reads.kinds
          (rw (reads.precursors, lent) flash.are);
      come = reads.come;
      is_manifest = writes.is_manifest;
      told = subst (λ before. Appends before new writes.text) same writes.told;
    }

-- A flush after the answer changes nothing.
pub AnswersNewManifest-kept : (device : Source) (asked : NewManifest) (input : Option (List ℕ)) (files : FileBytes)
    (old mid new : Option (List ℕ)) → AnswersNewManifest Done device asked input files old mid → Keeps mid new
    → AnswersNewManifest Done device asked input files old new
AnswersNewManifest-kept device asked input files old mid new answered kept = record {
  device_bytes = answered.device_bytes;
  of_device = answered.of_device;
  flash = answered.flash;
  flash_sources = answered.flash_sources;
  flash_contents = answered.flash_contents;
  sources = answered.sources;
  contents = answered.contents;
  manifest = answered.manifest;
  text = answered.text;
  flash_named = answered.flash_named;
  named = answered.named;
  given = answered.given;
  is_device = answered.is_device;
  is_flash = answered.is_flash;
  sequence = answered.sequence;
  asked_for = answered.asked_for;
  come = answered.come;
  is_manifest = answered.is_manifest;
  told = Appends-kept old mid new _ answered.told kept;
}

-- ---- notes

no_text : (text : List ℕ) → (length text == 0) ≡ true → text ≡ []
no_text [] none = refl
no_text (b ∷ bs) none = absurd (omega (arith, eqb-true (length (b ∷ bs)) 0 none))

some_text : (text : List ℕ) → (length text == 0) ≡ false → 0 < length text
some_text [] some = absurd (eqb-false 0 0 some refl)
some_text (b ∷ bs) some = omega arith

-- There is no note.
pub no_notes : (is_quiet : Bool) (old new : Option (List ℕ)) → WritesNotes is_quiet old new → is_quiet ≡ true
    → Appends old new []
no_notes is_quiet old new writes quiet =
    subst (Appends old new) (no_text writes.notes (sym writes.quiet ∙ quiet)) writes.told

-- There is one.
pub some_notes : (is_quiet : Bool) (old new : Option (List ℕ)) → WritesNotes is_quiet old new → is_quiet ≡ false
    → Notes old new
some_notes is_quiet old new writes loud =
    (writes.notes, some_text writes.notes (sym writes.quiet ∙ loud), writes.told)
