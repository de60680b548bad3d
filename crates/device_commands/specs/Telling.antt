-- The result of writing the replies of a device one by one, for the private contracts of `run`.
use Rattle.std.specs.Prelude.{◌≡◌, ℕ, ◌+◌, ◌≤◌, Bool, false, List, [], ◌++◌, length, Option, Some, Result, IfErr, IfOk, map, take}
use Rattle.std.specs.Io.KnownBytes.{Appends}
use Rattle.std.specs.List.{list_any}
use Rattle.common.specs.Lines.{lines_of}
use Rattle.machine.specs.declared.event.Event.{Event}
use Rattle.flash_model.specs.declared.torn.Armed.{Armed}
use Rattle.flash_contents.specs.Holding.{DeviceView}
use Rattle.machine.specs.Intake.{Setup}
use Rattle.flash_contents.specs.Passing.{RunsTo, StepsTo}
use Rattle.machine.specs.Steps.{DeviceEvent}
use Rattle.machine.specs.declared.reply.Reply.{Reply}
use Rattle.boot_core.specs.CutEvents.{CutsEach, IsCutAsDue, StepsEach}
use Rattle.host.specs.declared.answer.Answer.{Answer}
use Rattle.host.specs.declared.error.Refusal.{Refusal}
use Rattle.host.specs.Status.{status_of_refusal}
use Rattle.host.specs.Input.{FileBytes}
use Rattle.device_texts.specs.declared.device.DeviceFile.{DeviceFile}
use Rattle.device_texts.specs.DeviceFile.{setup_of}
use Rattle.device_texts.specs.ReplyJson.{note_line, reply_line, reply_lines}
use Rattle.device_texts.specs.declared.form.Form.{Form}
use Rattle.inputs.specs.declared.checking.BufferedInput.{BufferedInput}
use Rattle.inputs.specs.Loading.{AreCutsOf, FirstCome, LoadsAll, LoadsFirst}
use Rattle.inputs.specs.Script.{IsScript, Known, StaysKnown}
use Rattle.device_commands.specs.declared.run.Told.{Told}
use Rattle.device_commands.specs.RunEnd.{IsMadeOf, Plays, PlaysFirst, answer_after, came_by, ending, is_refusal, last_answer}

-- A writer took a prefix of a text and no more, or there was no memory for the text. The refusal
-- isn't that of the flash file, whose status is 4.
pub record BreaksOff (refusal : Refusal) (text : List ℕ) (before after : Option (List ℕ))
    : Type 0 where
  pub count : ℕ
  pub begun : Appends before after (take count text)
  pub output : status_of_refusal refusal ≡ 4 → ⊥

-- A device replied to an event.
pub record RepliesTo (setup : Setup) (old new : DeviceView) (came : Event (List ℕ)) : Type 0 where
  pub event : DeviceEvent
  pub reply : Reply
  pub comes : came_by event ≡ came
  pub steps : StepsTo setup old new event reply
  -- The reply is Cut exactly if the flash took an armed write, or had a fault.
  pub due : IsCutAsDue old.flash reply new.flash

-- A device replied to its event of this number, and a writer took the reply and the notes on it.
-- `told` says what this reply means for the run.
pub record TellsEvent (form : Form) (told : Told) (number : ℕ) (setup : Setup) (old new : DeviceView)
    (came : Event (List ℕ)) (before after : Option (List ℕ)) : Type 0 where
  pub step : RepliesTo setup old new came
  pub notes : List (List ℕ)
  pub written : Appends before after
      (reply_line form number step.reply ++ note_line form number notes)
  pub answered : told.answer ≡ answer_after (Some step.reply)
  pub refused : told.has_refused ≡ is_refusal step.reply

-- A device replied to its event, and the reply with its notes was written in part or not at all.
pub record BreaksEvent (form : Form) (refusal : Refusal) (number : ℕ) (setup : Setup) (old new : DeviceView)
    (came : Event (List ℕ)) (before after : Option (List ℕ)) : Type 0 where
  pub step : RepliesTo setup old new came
  pub notes : List (List ℕ)
  pub broken : BreaksOff refusal
      (reply_line form number step.reply ++ note_line form number notes) before after

-- A device gave these replies to events, one to each.
pub record RepliesToAll (setup : Setup) (old new : DeviceView) (came : List (Event (List ℕ)))
    (replies : List Reply) : Type 0 where
  pub events : List DeviceEvent
  pub come : map came_by events ≡ came
  pub runs : RunsTo setup old new events replies
  pub each : length replies ≡ length events
  -- Event by event, the reply is Cut exactly if the flash took an armed write in it, or had a fault.
  pub due : StepsEach IsCutAsDue setup old events replies new

-- A device replied to all events, and a writer took the replies. `last` is the answer of the last of
-- them, and `refused` says whether one refuses something. `failed` is false only if no write of the
-- flash file failed.
pub record TellsAll (form : Form) (last : Answer) (refused failed : Bool) (setup : Setup) (old new : DeviceView)
    (came : List (Event (List ℕ))) (before after : Option (List ℕ)) : Type 0 where
  pub replies : List Reply
  pub run : RepliesToAll setup old new came replies
  -- The flash had no fault if no write of its file has failed.
  pub sound : failed ≡ false → (new.flash.faults ≡ 0) × CutsEach setup old run.events replies new
  pub answered : last ≡ last_answer replies
  pub is_refused : refused ≡ list_any is_refusal replies
  pub notes : List (List (List ℕ))
  pub noted : length notes ≡ length replies
  pub written : Appends before after (reply_lines form 1 replies notes)

-- A device replied to these events. A writer took all replies, or all but the last and a prefix of
-- it.
pub record TellsSome (form : Form) (refusal : Refusal) (setup : Setup) (old new : DeviceView)
    (came : List (Event (List ℕ))) (before after : Option (List ℕ)) : Type 0 where
  pub told : List Reply
  pub untold : List Reply
  pub notes : List (List (List ℕ))
  pub late : List (List (List ℕ))
  pub count : ℕ
  pub run : RepliesToAll setup old new came (told ++ untold)
  pub one : length untold ≤ 1
  pub written : Appends before after
      (reply_lines form 1 told notes
      ++ take count (reply_lines form (1 + length told) untold late))
  -- If the flash file failed, each reply was written.
  pub output : status_of_refusal refusal ≡ 4 → untold ≡ []

-- A device replied to all events of a text, and a writer took the replies. No write of the flash
-- file failed.
pub record TellsText (form : Form) (is_strict : Bool) (answer : Answer) (setup : Setup) (old new : DeviceView)
    (text : List ℕ) (buffered : List BufferedInput) (files : FileBytes)
    (before after : Option (List ℕ)) : Type 0 where
  pub came : List (Event (List ℕ))
  pub last : Answer
  pub refused : Bool
  pub comes : LoadsAll text buffered files came
  pub tells : TellsAll form last refused false setup old new came before after
  pub ends : answer ≡ ending is_strict refused last

-- A run of a text broke off. A device replied to the events of the first lines. Then a reply could
-- not be written, or the next line could not be read; or all lines were run, and the flash file
-- failed.
pub record BreaksText (form : Form) (refusal : Refusal) (setup : Setup) (old new : DeviceView)
    (text : List ℕ) (buffered : List BufferedInput) (files : FileBytes)
    (before after : Option (List ℕ)) : Type 0 where
  pub lines : ℕ
  pub came : List (Event (List ℕ))
  pub comes : LoadsFirst lines text buffered files came
  pub tells : TellsSome form refusal setup old new came before after
  pub whole : status_of_refusal refusal ≡ 4 → lines ≡ length (lines_of text)

-- The answer of a run of all events of a text, whose replies a writer took. The device is of this
-- file. Its flash has these bytes and is armed with these cuts.
pub record PlaysText (form : Form) (is_strict : Bool) (answer : Answer) (device : DeviceFile) (bytes : List ℕ)
    (cuts : List Armed) (text : List ℕ) (buffered : List BufferedInput) (files : FileBytes)
    (old new : Option (List ℕ)) : Type 0 where
  pub came : List (Event (List ℕ))
  pub comes : LoadsAll text buffered files came
  pub plays : Plays form is_strict answer device bytes cuts came old new

-- What a writer took of a run of a text that ended without an answer. The device is of this file.
-- Its flash has these bytes and is armed with these cuts.
pub record TellsFirst (form : Form) (refusal : Refusal) (device : DeviceFile) (bytes : List ℕ)
    (cuts : List Armed) (text : List ℕ) (buffered : List BufferedInput) (files : FileBytes)
    (before after : Option (List ℕ)) : Type 0 where
  pub old : DeviceView
  pub new : DeviceView
  pub made : IsMadeOf device.map bytes cuts old
  pub breaks : BreaksText form refusal (setup_of device) old new text buffered files before after

-- A script of this text, with the files that its lines name, was run on a device of this file, whose
-- flash had these bytes.
pub record RunsScript (form : Form) (is_strict : Bool) (answer : Answer) (device : DeviceFile)
    (bytes text : List ℕ) (input : Option (List ℕ)) (files : FileBytes)
    (old new : Option (List ℕ)) : Type 0 where
  pub cuts : List Armed
  pub came : List (Event (List ℕ))
  pub says : (known : Known) → StaysKnown known input files → IsScript text known cuts came
  pub plays : Plays form is_strict answer device bytes cuts came old new

-- A script of this text was run on a device of this file, whose flash had these bytes, and ended with
-- an error after the events of its first lines.
pub record RunsFirstLines (form : Form) (device : DeviceFile) (bytes text : List ℕ)
    (input : Option (List ℕ)) (files : FileBytes) (old new : Option (List ℕ)) : Type 0 where
  pub cuts : List Armed
  pub lines : ℕ
  pub came : List (Event (List ℕ))
  pub cut : AreCutsOf text cuts
  pub says : (known : Known) → StaysKnown known input files → FirstCome lines text known came
  pub plays : PlaysFirst form device bytes cuts came old new

-- How a run of a text ends, on a device of this file, whose flash has these bytes and is armed with
-- these cuts: with an answer, or without one.
pub record PlaysRun (form : Form) (is_strict : Bool) (result : Result Answer Refusal) (device : DeviceFile)
    (bytes : List ℕ) (cuts : List Armed) (text : List ℕ) (buffered : List BufferedInput)
    (files : FileBytes) (old new : Option (List ℕ)) : Type 0 where
  pub plays : IfOk result (λ answer.
      PlaysText form is_strict answer device bytes cuts text buffered files old new)
  pub tells : IfErr result (λ refusal.
      TellsFirst form refusal device bytes cuts text buffered files old new)
