-- The result of `sweep`: what it read, and which files it keeps.
use Rattle.std.specs.Prelude.{◌≡◌, ◌≢◌, ◌⊎◌, ℕ, Bool, IsSomeAnd, IsTrue, List, [], ◌∷◌, None, Option, Some, codes}
use Rattle.std.specs.Io.KnownBytes.{Appends, Keeps}
use Rattle.std.specs.Borrow.{Bor}
use Rattle.common.specs.Lines.{lines_of}
use Rattle.machine.specs.declared.event.Event.{Event}
use Rattle.machine.specs.declared.event.Event.TheVariants as event
use Rattle.device_texts.specs.LineText.{IsLineText}
use Rattle.device_texts.specs.Said.{Said}
use Rattle.device_texts.specs.Said as said
use Rattle.host.specs.declared.answer.Answer.{Answer}
use Rattle.host.specs.declared.source.Source.{Source}
use Rattle.host.specs.declared.source.Source.TheVariants.{StandardInput, File}
use Rattle.inputs.specs.declared.device_input.BadMap.{BadMap}
use Rattle.inputs.specs.DeviceInput.{GivesNoMap}
use Rattle.host.specs.Doings.{IsApartFrom, KeepsApart, KeepsSource}
use Rattle.host.specs.Input.{FileBytes, KeepsFiles}
use Rattle.host.specs.Inputs.{GiveEach}
use Rattle.device_texts.specs.declared.device.DeviceFile.{DeviceFile}
use Rattle.device_texts.specs.declared.form.Form.{Form}
use Rattle.device_texts.specs.DeviceFile.{IsDeviceFile}
use Rattle.device_commands.specs.ProvisionEnd.{AreOthers, KeepsWords}
use Rattle.inputs.specs.Script.{IsScript, known_after_each}
use Rattle.sweep.specs.Swept.{answer_of, written}
use Rattle.sweep.specs.declared.swept.Swept.{Swept}
use Rattle.sweep.specs.declared.swept.Swept.TheVariants as swept

-- `sweep` read a device file, and a script that cuts no write, with the files that it names. This
-- says nothing of the runs.
pub record SweepsDevice (device script : Source) (input : Option (List ℕ)) (files : FileBytes)
    : Type 0 where
  pub device_bytes : List ℕ
  pub of_device : DeviceFile
  pub text : List ℕ
  pub came : List (Event (List ℕ))
  pub given : GiveEach (device ∷ script ∷ []) input files (device_bytes ∷ text ∷ [])
  pub is_device : IsDeviceFile device_bytes of_device
  pub says : IsScript text
      (known_after_each (device ∷ script ∷ []) (record { input = input; files = files })) [] came

-- A device was made of its file, to run the script on it, whether it could be provisioned or not.
abbrev pub HasDevice : Swept → Type 0
HasDevice (swept.Found found) = Unit {0}
HasDevice (swept.RefusedMap refused) = ⊥
HasDevice (swept.RefusedDevice fault) = Unit {0}
HasDevice swept.Nothing = ⊥

-- What `sweep` read for its result: a device file and a script, or a device file whose sizes make no
-- map. In the second case the script doesn't matter.
abbrev pub FindsSweep : Swept → Source → Source → Option (List ℕ) → FileBytes → Type 0
FindsSweep (swept.Found found) device script input files = SweepsDevice device script input files
FindsSweep (swept.RefusedMap refused) device script input files =
    (bad : BadMap) × GivesNoMap device input files bad × (refused ≡ bad.fault)
FindsSweep (swept.RefusedDevice fault) device script input files =
    SweepsDevice device script input files
FindsSweep swept.Nothing device script input files = ⊥

-- A writer took the result of a sweep in this form. A JSON object may have notes.
pub record WritesSwept (form : Form) (answer : Answer) (it : Swept) (old new : Option (List ℕ))
    : Type 0 where
  pub notes : List (List ℕ)
  pub answered : answer ≡ answer_of it
  pub taken : Appends old new (written form notes it)

-- The answer of `sweep`: the result of a sweep, for what it read, is written in this form.
abbrev pub AnswersSweep : Form → Answer → Source → Source → Option (List ℕ) → FileBytes
    → Option (List ℕ) → Option (List ℕ) → Type 0
AnswersSweep form answer device script input files old new =
    (it : Swept) × FindsSweep it device script input files × WritesSwept form answer it old new

-- The answer of `sweep --merge`: the result of a sweep is written in this form.
abbrev pub AnswersMerge : Form → Answer → Option (List ℕ) → Option (List ℕ) → Type 0
AnswersMerge form answer old new = (it : Swept) × WritesSwept form answer it old new

-- What a line of a script says names this file, to use it or a part of it. The name `-` is no file.
abbrev pub SaysFile : List ℕ → Said → Type 0
SaysFile name (said.Event (event.Accept file)) = (file.name ≡ name) × (name ≢ codes "-")
SaysFile name (said.Event (event.Piece image file)) = (file.name ≡ name) × (name ≢ codes "-")
SaysFile name other = ⊥

-- A line names this file.
abbrev pub LineNames : List ℕ → List ℕ → Type 0
LineNames name line = (says : Said) × IsLineText line says × SaysFile name says

-- One of these lines names this file.
abbrev pub SomeNames : List ℕ → List (List ℕ) → Type 0
SomeNames name [] = ⊥
SomeNames name (line ∷ lines) = LineNames name line ⊎ SomeNames name lines

-- A line of this text names this file.
abbrev pub IsNamedBy : List ℕ → List ℕ → Type 0
IsNamedBy text name = SomeNames name (lines_of text)

-- A line of a script names this file. The script is a file that is known to hold its text.
abbrev pub IsNamedIn : Source → FileBytes → List ℕ → Type 0
IsNamedIn StandardInput files name = ⊥
IsNamedIn (File script) files name = IsSomeAnd (files script.now) (λ text. IsNamedBy text name)

-- The host said that these are names of different files.
abbrev pub IsOther : (List ℕ → List ℕ → Bool) → List ℕ → List ℕ → Type 0
IsOther apart name other = IsTrue (apart name other)

-- The file of this name is apart from every input: from the device file, the script, each image,
-- and each file that the script's text names.
pub record IsNoInput (apart : List ℕ → List ℕ → Bool) (name : List ℕ) (device script : Source)
    (images : List (Bor (List ℕ))) (text : List ℕ) : Type 0 where
  pub not_device : IsApartFrom apart name device
  pub not_script : IsApartFrom apart name script
  pub no_image : AreOthers (apart name) images
  pub not_named : (other : List ℕ) → IsNamedBy text other → IsOther apart name other

-- Each file keeps what it is known to hold, except the file of the picture, if there is one.
abbrev pub KeepsBesides : Option (Bor (List ℕ)) → (List ℕ → List ℕ → Bool)
    → FileBytes → FileBytes → Type 0
KeepsBesides None apart old new = KeepsFiles old new
KeepsBesides (Some picture) apart old new = KeepsApart (apart picture.now) old new

-- The device file, the script, each image and each named file keep what they are known to hold.
-- Without a picture, every file does.
pub record KeepsRead (device script : Source) (images : List (Bor (List ℕ)))
    (IsNamed : List ℕ → Type 0) (picture : Option (Bor (List ℕ))) (old new : FileBytes)
    : Type 0 where
  pub device_kept : KeepsSource device old new
  pub script_kept : KeepsSource script old new
  pub images_kept : KeepsWords images old new
  pub named_kept : (name : List ℕ) → IsNamed name → Keeps (old name) (new name)
  pub all_kept : picture ≡ None → KeepsFiles old new

-- Outputs of sweeps that are merged keep what they are known to hold. Without a picture, every file
-- does.
pub record KeepsOutputs (outputs : List (Bor (List ℕ))) (picture : Option (Bor (List ℕ)))
    (old new : FileBytes) : Type 0 where
  pub outputs_kept : KeepsWords outputs old new
  pub all_kept : picture ≡ None → KeepsFiles old new

-- A sweep keeps its inputs, among them the files that the script names.
abbrev pub KeepsInputs : Source → Source → List (Bor (List ℕ)) → Option (Bor (List ℕ))
    → FileBytes → FileBytes → Type 0
KeepsInputs device script images picture old new =
    KeepsRead device script images (IsNamedIn script old) picture old new
