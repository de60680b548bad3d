-- The answers of `provision` and `run`, from what was read in turn and what was written.
use Rattle.std.proofs.Common.{◌≡◌, ◌⊎◌, ◌||◌, ℕ, Bool, List, [], ◌∷◌, None, Option, Result, Some, Ok, Err, IfErr, IfOk, IfSome, ap, arith, inl, inr, length, option_map, refl, subst, sym, true}
use Rattle.std.specs.Prelude.{IsSomeAnd}
use Rattle.std.specs.Io.KnownBytes.{Keeps}
use Rattle.std.specs.Borrow.{Bor}
use Rattle.host.specs.declared.answer.Answer.{Answer}
use Rattle.host.specs.declared.answer.Answer.TheVariants.{Done, Refused, Cut}
use Rattle.machine.specs.declared.event.Event.{Event}
use Rattle.flash_model.specs.declared.torn.Armed.{Armed}
use Rattle.host.specs.declared.error.Refusal.{Refusal}
use Rattle.host.specs.declared.error.Refusal.TheVariants as no
use Rattle.host.specs.declared.error.ScriptFault.TheVariants as script_fault
use Rattle.host.specs.declared.error.ScriptLine.{ScriptLine}
use Rattle.host.specs.ScriptLines.{script_line}
use Rattle.inputs.specs.ScriptFault.{IsFaultOfRun, OnScriptLine}
use Rattle.inputs.proofs.ScriptFaultLaws.{IsFaultOfRun-kept}
use Rattle.machine.specs.declared.error.Fault.{Fault}
use Rattle.flash_model.specs.Units.{are_erased}
use Rattle.sector_map.specs.declared.layout.SectorMap.{SectorMap}
use Rattle.device_commands.specs.declared.provision.NewFlash.{NewFlash}
use Rattle.device_commands.specs.declared.provision.Provisioned.{Provisioned}
use Rattle.device_commands.specs.declared.provision.Provisioned.TheVariants as made
use Rattle.device_texts.specs.declared.device.DeviceFile.{DeviceFile}
use Rattle.host.specs.declared.source.Source.{Source}
use Rattle.host.specs.declared.source.Source.TheVariants as source
use Rattle.device_texts.specs.declared.form.Form.{Form}
use Rattle.device_texts.specs.FlashOf.{IsFlashOf}
use Rattle.inputs.specs.DeviceInput.{GivesDevice}
use Rattle.host.specs.Input.{FileBytes, Gives, KeepsFiles, KeepsOthers, is_standard_input}
use Rattle.device_commands.specs.ProvisionEnd.{AnswersMade, AnswersProvision, EndsMade, MakesDevice, MayReplace, ReadsImages}
use Rattle.device_commands.specs.RunEnd.{AnswersRun, BlamesRun, BreaksRun, NamesWrongLine, Plays, RunsDevice}
use Rattle.device_commands.specs.Telling.{RunsFirstLines}
use Rattle.inputs.specs.Script.{IsScript, Known, StaysKnown, known_after, known_after_each, known_at}
use Rattle.host.specs.Inputs.{GiveEach}
use Rattle.host.specs.Status.{EndsUnmade, status_of_answer}
use Rattle.host.proofs.InputLaws.{GiveEach-one, GiveEach-read}
use Rattle.inputs.proofs.ScriptLaws.{StaysKnown-itself, StaysKnown-read}

-- The result of making a flash is never that the power failed.
not_cut : (made : Provisioned) (old new : Option (List ℕ)) → AnswersMade Cut made old new → ⊥
not_cut made.Done old new answered =
    let same : 3 ≡ 0 = ap status_of_answer answered.0 in omega (arith, same)
not_cut (made.Refused fault) old new answered =
    let same : 3 ≡ 1 = ap status_of_answer answered.0 in omega (arith, same)

AnswersProvision-made : (answer : Answer) (flash : NewFlash) (device : Source) (names : List (List ℕ))
    (input : Option (List ℕ)) (file : FileBytes) (held old new : Option (List ℕ))
    → MakesDevice answer flash device names input file held old new
    → AnswersProvision answer flash device names input file held old new
AnswersProvision-made Done flash device names input file held old new makes = makes
AnswersProvision-made Refused flash device names input file held old new makes = inl makes
AnswersProvision-made Cut flash device names input file held old new makes =
    absurd (not_cut makes.outcome old new makes.answered)

may_replace_before : (forced : Bool) (long : ℕ) (old new : Option (List ℕ)) → Keeps old new
    → MayReplace forced long new → MayReplace forced long old
may_replace_before forced long None new kept may = inr tt
may_replace_before forced long (Some xs) None kept may = absurd kept
may_replace_before forced long (Some xs) (Some ys) kept (inl is) = inl is
may_replace_before forced long (Some xs) (Some ys) kept (inr holds) =
    inr (subst (λ held. (are_erased held ≡ true) ⊎ (length held ≡ long)) kept holds)

-- A file that may be replaced after all files were kept could be replaced before.
ends_before : (made : Provisioned) (map : SectorMap) (bytes : List ℕ) (forced : Bool)
    (was mid held : Option (List ℕ)) → Keeps was mid → EndsMade made map bytes forced mid held
    → EndsMade made map bytes forced was held
ends_before made.Done map bytes forced was mid held kept ends =
    (ends.0, ends.1, ends.2, may_replace_before forced _ was mid kept ends.3)
ends_before (made.Refused fault) map bytes forced was mid held kept ends = ends

-- `provision` read a device file and then its images.
pub AnswersProvision-read : (answer : Answer) (flash : NewFlash) (device : Source) (names : List (List ℕ))
    (input mid_input : Option (List ℕ)) (file mid_file last_file : FileBytes)
    (held old mid new : Option (List ℕ)) (of_device : DeviceFile) (bytes : List ℕ) (made : Provisioned)
    → GivesDevice device input file of_device → KeepsOthers device input file mid_input mid_file
    → ReadsImages of_device.map names mid_input mid_file bytes → KeepsFiles file last_file
    → EndsMade made of_device.map bytes flash.is_forced (last_file flash.name.now) held
    → mid ≡ old → AnswersMade answer made mid new
    → AnswersProvision answer flash device names input file held old new
AnswersProvision-read answer flash device names input mid_input file mid_file last_file held old mid new of_device bytes
    made given kept read files_kept ends same answered =
    AnswersProvision-made answer flash device names input file held old new (record {
      device_bytes = given.0;
      of_device = of_device;
      sources = read.0;
      contents = read.1;
      outcome = made;
      named = read.2;
      given = GiveEach-read device read.0 input mid_input file mid_file given.0 read.1 given.1 kept read.3;
      is_device = given.2;
      fit = read.4;
      made = subst (λ all. EndsMade made of_device.map all flash.is_forced (file flash.name.now) held) read.5
          (ends_before made of_device.map bytes flash.is_forced (file flash.name.now) (last_file flash.name.now) held
          (files_kept flash.name.now) ends);
      answered = subst (λ o. AnswersMade answer made o new) same answered;
    })

-- A number for each kind of result, which differs for a refused and a provisioned flash.
abbrev made_number : Provisioned → ℕ
made_number made.Done = 0
made_number (made.Refused fault) = 1

not_done : (fault : Fault) → made.Refused fault ≡ made.Done → ⊥
not_done fault same = let numbers : 1 ≡ 0 = ap made_number same in omega (arith, numbers)

-- If `provision` ended before it replaced the file, all files were kept.
pub KeepsFiles-told : (result : Result Answer Refusal) (outcome : Provisioned) (files new_files : FileBytes)
    (old new : Option (List ℕ)) → IfOk result (λ answer. AnswersMade answer outcome old new)
    → (outcome ≡ made.Done → IfErr result (λ refusal. refusal ≡ no.CannotWrite))
    → ((outcome ≡ made.Done → ⊥) → KeepsFiles files new_files)
    → EndsUnmade result → KeepsFiles files new_files
KeepsFiles-told (Ok Done) outcome files new_files old new answered late kept ends = absurd ends
KeepsFiles-told (Ok Refused) made.Done files new_files old new answered late kept ends =
    let same : 1 ≡ 0 = ap status_of_answer answered.0 in absurd (omega (arith, same))
KeepsFiles-told (Ok Cut) made.Done files new_files old new answered late kept ends =
    let same : 3 ≡ 0 = ap status_of_answer answered.0 in absurd (omega (arith, same))
KeepsFiles-told (Err refusal) made.Done files new_files old new answered late kept ends =
    absurd (subst (λ one. EndsUnmade (Err one)) (late refl) ends)
KeepsFiles-told (Ok Refused) (made.Refused fault) files new_files old new answered late kept ends =
    kept (not_done fault)
KeepsFiles-told (Ok Cut) (made.Refused fault) files new_files old new answered late kept ends =
    kept (not_done fault)
KeepsFiles-told (Err refusal) (made.Refused fault) files new_files old new answered late kept ends =
    kept (not_done fault)

AnswersRun-runs : (form : Form) (is_strict : Bool) (answer : Answer) (device flash script : Source) (input : Option (List ℕ))
    (file : FileBytes) (old new : Option (List ℕ))
    → RunsDevice form is_strict answer (device ∷ flash ∷ script ∷ []) input file old new
    → AnswersRun form is_strict answer device flash script input file old new
AnswersRun-runs form is_strict Done device flash script input file old new runs = runs
AnswersRun-runs form is_strict Refused device flash script input file old new runs = inl runs
AnswersRun-runs form is_strict Cut device flash script input file old new runs = runs

-- A device file, its flash and a script were read in turn.
reads_three : (device : Source) (flash : Bor (List ℕ)) (script : Source)
    (input second_input third_input fourth_input : Option (List ℕ)) (file second_file third_file fourth_file : FileBytes)
    (device_bytes bytes text : List ℕ) → Gives device input file device_bytes
    → KeepsOthers device input file second_input second_file
    → Gives (source.File flash) second_input second_file bytes
    → KeepsOthers (source.File flash) second_input second_file third_input third_file
    → Gives script third_input third_file text
    → KeepsOthers script third_input third_file fourth_input fourth_file
    → GiveEach (device ∷ source.File flash ∷ script ∷ []) input file (device_bytes ∷ bytes ∷ text ∷ [])
    × StaysKnown (known_after script (known_after device (record { input = input; files = file }))) fourth_input fourth_file
reads_three device flash script input second_input third_input fourth_input file second_file third_file fourth_file device_bytes
    bytes text given kept flash_given flash_kept script_given script_kept =
    let first : Known = record { input = input; files = file } in
    let second = known_after device first in
    let stays = StaysKnown-read device first input second_input file second_file (StaysKnown-itself input file) kept in
    let still = StaysKnown-read (source.File flash) second second_input third_input second_file third_file stays flash_kept in (
      GiveEach-read device (source.File flash ∷ script ∷ []) input second_input file second_file device_bytes
          (bytes ∷ text ∷ []) given kept
          (GiveEach-read (source.File flash) (script ∷ []) second_input third_input second_file third_file bytes
          (text ∷ []) flash_given flash_kept (GiveEach-one script third_input third_file text script_given)),
      StaysKnown-read script second third_input fourth_input third_file fourth_file still script_kept,
    )

-- `run` read a device file, then its flash, and then a script with the files that it names.
pub AnswersRun-read : (form : Form) (is_strict : Bool) (answer : Answer) (device : Source) (flash : Bor (List ℕ)) (script : Source)
    (input second_input third_input fourth_input : Option (List ℕ))
    (file second_file third_file fourth_file : FileBytes)
    (old new : Option (List ℕ)) (bytes text : List ℕ) (cuts : List Armed) (came : List (Event (List ℕ)))
    (of_device : DeviceFile)
    → GivesDevice device input file of_device → KeepsOthers device input file second_input second_file
    → Gives (source.File flash) second_input second_file bytes
    → KeepsOthers (source.File flash) second_input second_file third_input third_file
    → Gives script third_input third_file text
    → KeepsOthers script third_input third_file fourth_input fourth_file
    → ((known : Known) → StaysKnown known fourth_input fourth_file → IsScript text known cuts came)
    → IsFlashOf of_device.map bytes → Plays form is_strict answer of_device bytes cuts came old new
    → AnswersRun form is_strict answer device (source.File flash) script input file old new
AnswersRun-read form is_strict answer device flash script input second_input third_input fourth_input file second_file third_file
    fourth_file old new bytes text cuts came of_device given kept flash_given flash_kept script_given script_kept says
    whole plays =
    let read = reads_three device flash script input second_input third_input fourth_input file second_file third_file fourth_file
    given.0 bytes text given.1 kept flash_given flash_kept script_given script_kept in
    AnswersRun-runs form is_strict answer device (source.File flash) script input file old new (record {
      device_bytes = given.0;
      of_device = of_device;
      bytes = bytes;
      text = text;
      cuts = cuts;
      came = came;
      given = read.0;
      is_device = given.2;
      whole = whole;
      script = says _ read.1;
      plays = plays;
    })

-- The same for a run that ended with an error.
pub BreaksRun-read : (form : Form) (device : Source) (flash : Bor (List ℕ)) (script : Source)
    (input second_input third_input fourth_input : Option (List ℕ))
    (file second_file third_file fourth_file : FileBytes) (old new : Option (List ℕ)) (bytes text : List ℕ) (of_device : DeviceFile)
    → GivesDevice device input file of_device → KeepsOthers device input file second_input second_file
    → Gives (source.File flash) second_input second_file bytes
    → KeepsOthers (source.File flash) second_input second_file third_input third_file
    → Gives script third_input third_file text
    → KeepsOthers script third_input third_file fourth_input fourth_file
    → IsFlashOf of_device.map bytes
    → (new ≡ old) ⊎ RunsFirstLines form of_device bytes text fourth_input fourth_file old new
    → BreaksRun form device (source.File flash) script input file old new
BreaksRun-read form device flash script input second_input third_input fourth_input file second_file third_file fourth_file old new
    bytes text of_device given kept flash_given flash_kept script_given script_kept whole (inl same) = inl same
BreaksRun-read form device flash script input second_input third_input fourth_input file second_file third_file fourth_file old new
    bytes text of_device given kept flash_given flash_kept script_given script_kept whole (inr runs) =
    let read = reads_three device flash script input second_input third_input fourth_input file second_file third_file fourth_file
    given.0 bytes text given.1 kept flash_given flash_kept script_given script_kept in
    inr (inl (record {
      device_bytes = given.0;
      of_device = of_device;
      bytes = bytes;
      text = text;
      cuts = runs.cuts;
      lines = runs.lines;
      came = runs.came;
      given = read.0;
      is_device = given.2;
      whole = whole;
      cut = runs.cut;
      first = runs.says _ read.1;
      plays = runs.plays;
    }))

named_in : (named : Option ScriptLine) (with_text : ScriptLine → ScriptLine) (Holds HoldsThen : ScriptLine → Type 0)
    → ((bad : ScriptLine) → Holds bad → HoldsThen (with_text bad)) → IfSome named Holds
    → IfSome (option_map with_text named) HoldsThen
named_in None with_text Holds HoldsThen each holds = tt
named_in (Some bad) with_text Holds HoldsThen each holds = each bad holds

-- The error of a run names a line of the script that was read, and was given its text.
pub BlamesRun-read : (device : Source) (flash : Bor (List ℕ)) (script : Source)
    (input second_input third_input fourth_input : Option (List ℕ))
    (file second_file third_file fourth_file : FileBytes) (bytes text : List ℕ) (of_device : DeviceFile)
    (refusal shown : Refusal) (with_text : ScriptLine → ScriptLine)
    → GivesDevice device input file of_device → KeepsOthers device input file second_input second_file
    → Gives (source.File flash) second_input second_file bytes
    → KeepsOthers (source.File flash) second_input second_file third_input third_file
    → Gives script third_input third_file text
    → KeepsOthers script third_input third_file fourth_input fourth_file
    → script_line shown ≡ option_map with_text (script_line refusal)
    → ((bad : ScriptLine) → (with_text bad).line ≡ bad.line)
    → ((bad : ScriptLine) → (with_text bad).fault ≡ bad.fault)
    → ((bad : ScriptLine) → IsSomeAnd (with_text bad).script (λ shown. shown.items ≡ text))
    → OnScriptLine refusal (λ bad. IsFaultOfRun text (is_standard_input device || is_standard_input script)
    (known_at fourth_input fourth_file) bad.line bad.fault)
    → BlamesRun device (source.File flash) script input file shown
BlamesRun-read device flash script input second_input third_input fourth_input file second_file third_file fourth_file
    bytes text of_device refusal shown with_text given kept flash_given flash_kept script_given script_kept is same_line
    same_fault has_text wrong =
    let read = reads_three device flash script input second_input third_input fourth_input file second_file third_file fourth_file
    given.0 bytes text given.1 kept flash_given flash_kept script_given script_kept in
    let sources = device ∷ source.File flash ∷ script ∷ [] in
    let is_read = is_standard_input device || is_standard_input script in
    let known = known_after_each sources (known_at input file) in
    subst (λ named. IfSome named (λ bad. (bad.fault ≡ script_fault.TooLong)
    ⊎ NamesWrongLine sources is_read input file bad)) (sym is)
    (named_in (script_line refusal) with_text _ _
    (λ bad fault. inr (record {
      device_bytes = given.0;
      bytes = bytes;
      text = text;
      given = read.0;
      shown = has_text bad;
      wrong = subst (λ why. IsFaultOfRun text is_read known (with_text bad).line why) (sym (same_fault bad))
          (subst (λ n. IsFaultOfRun text is_read known n bad.fault) (sym (same_line bad))
          (IsFaultOfRun-kept text is_read known fourth_input fourth_file bad.line bad.fault read.1 fault));
    })) wrong)
