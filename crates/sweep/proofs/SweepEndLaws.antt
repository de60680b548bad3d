-- The result of a sweep from what it read in turn, and the files that it keeps.
use Rattle.std.proofs.Common.{◌⊎◌, ℕ, Bool, List, [], ◌∷◌, None, Option, Some, inl, inr, subst, sym}
use Rattle.std.proofs.KnownBytes.{Appends-kept}
use Rattle.std.specs.Io.KnownBytes.{Keeps}
use Rattle.common.specs.Lines.{lines_of}
use Rattle.device_texts.specs.LineText.{IsLineText}
use Rattle.device_texts.specs.Said.{Said, said}
use Rattle.device_texts.specs.declared.line.Line.{Line}
use Rattle.device_texts.proofs.LineLaws.{one_line}
use Rattle.inputs.specs.Loading.{IsNextLine}
use Rattle.inputs.specs.declared.lines.Lines.{Lines}
use Rattle.std.specs.Prelude.{IfSome, IsSomeAnd}
use Rattle.std.specs.Borrow.{Bor}
use Rattle.host.specs.declared.answer.Answer.{Answer}
use Rattle.machine.specs.declared.event.Event.{Event}
use Rattle.device_texts.specs.declared.device.DeviceFile.{DeviceFile}
use Rattle.host.specs.declared.source.Source.{Source}
use Rattle.inputs.specs.DeviceInput.{GivesDevice}
use Rattle.host.specs.declared.source.Source.TheVariants.{StandardInput, File}
use Rattle.host.specs.Doings.{KeepsSource}
use Rattle.host.specs.Input.{FileBytes, Gives, IsKnownAs, KeepsFiles, KeepsOthers}
use Rattle.device_commands.specs.ProvisionEnd.{AreOthers}
use Rattle.sweep.specs.SweepEnd.{FindsSweep, HasDevice, WritesSwept, KeepsBesides, KeepsOutputs, IsNamedBy, IsNamedIn, IsOther, KeepsInputs, KeepsRead, LineNames, SaysFile, SomeNames, SweepsDevice}
use Rattle.inputs.specs.Script.{IsScript, Known, StaysKnown, known_after}
use Rattle.device_texts.specs.declared.form.Form.{Form}
use Rattle.sweep.specs.Swept.{written}
use Rattle.sweep.specs.declared.swept.Swept.{Swept}
use Rattle.sweep.specs.declared.swept.Swept.TheVariants as swept
use Rattle.host.proofs.InputLaws.{IsKnownAs-kept, GiveEach-one, GiveEach-read, KeepsFiles-twice, KeepsSource-kept, kept_twice}
use Rattle.inputs.proofs.ScriptLaws.{StaysKnown-itself, StaysKnown-read}

FindsSweep-ran : (it : Swept) (device script : Source) (input : Option (List ℕ)) (file : FileBytes)
    → HasDevice it → SweepsDevice device script input file → FindsSweep it device script input file
FindsSweep-ran (swept.Found found) device script input file ran sweeps = sweeps
FindsSweep-ran (swept.RefusedMap refused) device script input file ran sweeps = absurd ran
FindsSweep-ran (swept.RefusedDevice fault) device script input file ran sweeps = sweeps
FindsSweep-ran swept.Nothing device script input file ran sweeps = absurd ran

-- The sweep read a device file, and then a script with the files that it names.
pub FindsSweep-read : (it : Swept) (device script : Source) (input second_input third_input : Option (List ℕ))
    (file second_file third_file : FileBytes) (text : List ℕ)
    (came : List (Event (List ℕ))) (of_device : DeviceFile)
    → GivesDevice device input file of_device → KeepsOthers device input file second_input second_file
    → Gives script second_input second_file text → KeepsOthers script second_input second_file third_input third_file
    → ((known : Known) → StaysKnown known third_input third_file → IsScript text known [] came)
    → HasDevice it → FindsSweep it device script input file
FindsSweep-read it device script input second_input third_input file second_file third_file text
    came of_device given kept script_given script_kept says ran =
    let first : Known = record { input = input; files = file } in
    let second = known_after device first in
    let stays = StaysKnown-read device first input second_input file second_file (StaysKnown-itself input file) kept in
    FindsSweep-ran it device script input file ran (record {
      device_bytes = given.0;
      of_device = of_device;
      text = text;
      came = came;
      given = GiveEach-read device (script ∷ []) input second_input file second_file given.0 (text ∷ []) given.1 kept
          (GiveEach-one script second_input second_file text script_given);
      is_device = given.2;
      says = says (known_after script second)
          (StaysKnown-read script second second_input third_input second_file third_file stays script_kept);
    })

-- A flush after the answer changes nothing.
pub WritesSwept-kept : (form : Form) (answer : Answer) (it : Swept) (old mid new : Option (List ℕ))
    → WritesSwept form answer it old mid → Keeps mid new → WritesSwept form answer it old new
WritesSwept-kept form answer it old mid new writes kept = record {
  notes = writes.notes;
  answered = writes.answered;
  taken = Appends-kept old mid new (written form writes.notes it) writes.taken kept;
}

-- If all files were kept, the inputs of a sweep were.
pub inputs_kept : (device script : Source) (images : List (Bor (List ℕ))) (IsNamed : List ℕ → Type 0)
    (picture : Option (Bor (List ℕ))) (old new : FileBytes) → KeepsFiles old new
    → KeepsRead device script images IsNamed picture old new
inputs_kept device script images IsNamed picture old new kept = record {
  device_kept = KeepsSource-kept device old new kept;
  script_kept = KeepsSource-kept script old new kept;
  images_kept = λ place word at differs. kept word.now;
  named_kept = λ name named. kept name;
  all_kept = λ none. kept;
}

source_later : (source : Source) (old mid new : FileBytes) → KeepsFiles old mid → KeepsSource source mid new
    → KeepsSource source old new
source_later StandardInput old mid new kept later = tt
source_later (File name) old mid new kept later =
    kept_twice (old name.now) (mid name.now) (new name.now) (kept name.now) later

held_read : (held : Option (List ℕ)) (text name : List ℕ) → IsKnownAs held text
    → IsSomeAnd held (λ known. IsNamedBy known name) → IsNamedBy text name
held_read None text name same named = absurd named
held_read (Some known) text name same named = subst (λ one. IsNamedBy one name) (sym same) named

-- A file that the script is known to name is one that the text names that was read.
named_read : (script : Source) (text name : List ℕ) (input : Option (List ℕ)) (old mid : FileBytes)
    → KeepsFiles old mid → Gives script input mid text → IsNamedIn script old name → IsNamedBy text name
named_read StandardInput text name input old mid kept given named = absurd named
named_read (File script) text name input old mid kept given named =
    held_read (old script.now) text name (IsKnownAs-kept (old script.now) (mid script.now) text (kept script.now) given) named

-- The inputs were also kept if all files were kept before, and the script was read in that time.
pub inputs_later : (device script : Source) (images : List (Bor (List ℕ))) (text : List ℕ)
    (picture : Option (Bor (List ℕ))) (input : Option (List ℕ)) (old read mid new : FileBytes)
    → KeepsFiles old read → Gives script input read text → KeepsFiles old mid
    → KeepsRead device script images (IsNamedBy text) picture mid new
    → KeepsInputs device script images picture old new
inputs_later device script images text picture input old read mid new before given kept later = record {
  device_kept = source_later device old mid new kept later.device_kept;
  script_kept = source_later script old mid new kept later.script_kept;
  images_kept = λ place word at differs. kept_twice (old word.now) (mid word.now) (new word.now) (kept word.now)
      (later.images_kept place word at differs);
  named_kept = λ name named. kept_twice (old name) (mid name) (new name) (kept name)
      (later.named_kept name (named_read script text name input old read before given named));
  all_kept = λ none. KeepsFiles-twice old mid new kept (later.all_kept none);
}

-- A line says only one thing. So if each file of that is apart, each file that the line names is.
line_apart : (apart : List ℕ → List ℕ → Bool) (picture line name : List ℕ) (says : Said) → IsLineText line says
    → ((other : List ℕ) → SaysFile other says → IsOther apart picture other) → LineNames name line
    → IsOther apart picture name
line_apart apart picture line name says is others names =
    others name (subst (SaysFile name) (one_line line names.0 says names.1 is) names.2)

-- Each file that a text names is apart, or the rest of the text names it.
abbrev pub AreApartBefore : (List ℕ → List ℕ → Bool) → List ℕ → List ℕ → List ℕ → Type 0
AreApartBefore apart picture text rest = (name : List ℕ) → IsNamedBy text name
    → IsOther apart picture name ⊎ IsNamedBy rest name

apart_or : (apart : List ℕ → List ℕ → Bool) (picture name line : List ℕ) (more : List (List ℕ)) (says : Said)
    → IsLineText line says → ((other : List ℕ) → SaysFile other says → IsOther apart picture other)
    → SomeNames name (line ∷ more) → IsOther apart picture name ⊎ SomeNames name more
apart_or apart picture name line more says is others (inl names) =
    inl (line_apart apart picture line name says is others names)
apart_or apart picture name line more says is others (inr names) = inr names

apart_on : (apart : List ℕ → List ℕ → Bool) (picture : List ℕ) (old new : Lines) (line : Line)
    → IsNextLine old new line → ((other : List ℕ) → SaysFile other (said line) → IsOther apart picture other)
    → (name : List ℕ) → IsOther apart picture name ⊎ IsNamedBy old.rest.now name
    → IsOther apart picture name ⊎ IsNamedBy new.rest.now name
apart_on apart picture old new line next others name (inl is) = inl is
apart_on apart picture old new line next others name (inr named) =
    apart_or apart picture name next.text (lines_of new.rest.now) (said line) next.says others
    (subst (SomeNames name) next.parts named)

-- This also holds after the next line, if the file that it names is apart.
pub apart_more : (apart : List ℕ → List ℕ → Bool) (picture text : List ℕ) (old new : Lines) (line : Line)
    → IsNextLine old new line
    → ((other : List ℕ) → SaysFile other (said line) → IsOther apart picture other)
    → AreApartBefore apart picture text old.rest.now → AreApartBefore apart picture text new.rest.now
apart_more apart picture text old new line next others before name named =
    apart_on apart picture old new line next others name (before name named)

-- If all files were kept, the outputs that are merged were.
pub outputs_kept : (outputs : List (Bor (List ℕ))) (picture : Option (Bor (List ℕ))) (old new : FileBytes)
    → KeepsFiles old new → KeepsOutputs outputs picture old new
outputs_kept outputs picture old new kept =
    record { outputs_kept = λ place word at differs. kept word.now; all_kept = λ none. kept }

-- They were also kept if all files were kept before, and the picture is no output.
pub outputs_later : (outputs : List (Bor (List ℕ))) (picture : Option (Bor (List ℕ)))
    (apart : List ℕ → List ℕ → Bool) (old mid new : FileBytes) → KeepsFiles old mid
    → IfSome picture (λ one. AreOthers (apart one.now) outputs) → KeepsBesides picture apart mid new
    → KeepsOutputs outputs picture old new
outputs_later outputs None apart old mid new before others later =
    outputs_kept outputs None old new (KeepsFiles-twice old mid new before later)
outputs_later outputs (Some picture) apart old mid new before others later = record {
  outputs_kept = λ place word at differs. kept_twice (old word.now) (mid word.now) (new word.now) (before word.now)
      (later word.now (others place word at differs));
  all_kept = λ none. absurd (cc none);
}
