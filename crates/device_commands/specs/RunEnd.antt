-- The result of `run`.
use Rattle.std.specs.Prelude.{◌≡◌, ◌⊎◌, ◌&&◌, ◌||◌, ℕ, ◌+◌, ◌-◌, ◌≤◌, Bool, false, true, List, [], ◌∷◌, ◌++◌, if◌then◌else◌, length, IsSomeAnd, Option, None, Some, map, nat_lt, slice_get, take}
use Rattle.std.specs.List.{list_any}
use Rattle.std.specs.Io.KnownBytes.{Appends}
use Rattle.machine.specs.declared.event.Event.{Event}
use Rattle.machine.specs.Event.{event_map}
use Rattle.flash_model.specs.declared.torn.Armed.{Armed}
use Rattle.sector_map.specs.declared.layout.SectorMap.{SectorMap}
use Rattle.upload.specs.Sessions.{AllClosed}
use Rattle.flash_contents.specs.Holding.{DeviceView}
use Rattle.flash_contents.specs.Passing.{RunsTo}
use Rattle.machine.specs.Steps.{DeviceEvent}
use Rattle.machine.specs.declared.reply.Reply.{Reply}
use Rattle.machine.specs.declared.reply.Reply.TheVariants as reply
use Rattle.boot_core.specs.CutEvents.{CutsEach}
use Rattle.host.specs.declared.answer.Answer.{Answer}
use Rattle.host.specs.declared.answer.Answer.TheVariants.{Done, Refused, Cut}
use Rattle.device_texts.specs.declared.device.DeviceFile.{DeviceFile}
use Rattle.host.specs.declared.source.Source.{Source}
use Rattle.device_texts.specs.DeviceFile.{IsDeviceFile, setup_of}
use Rattle.device_texts.specs.FlashOf.{IsFlashOf, armed_chip}
use Rattle.inputs.specs.declared.device_input.BadMap.{BadMap}
use Rattle.inputs.specs.DeviceInput.{GivesNoMap}
use Rattle.host.specs.declared.error.Refusal.{Refusal}
use Rattle.host.specs.declared.error.ScriptFault.TheVariants as script_fault
use Rattle.host.specs.declared.error.ScriptLine.{ScriptLine}
use Rattle.host.specs.Input.{FileBytes, is_standard_input}
use Rattle.host.specs.Inputs.{GiveEach}
use Rattle.device_texts.specs.ReplyJson.{map_refusal_line, reply_lines}
use Rattle.device_texts.specs.declared.form.Form.{Form}
use Rattle.inputs.specs.Loading.{AreCutsOf, FirstCome}
use Rattle.inputs.specs.Script.{IsScript, known_after_each, known_at}
use Rattle.inputs.specs.ScriptFault.{IsFaultOfRun, OnScriptLine}

-- A new device over a flash with these bytes that is armed with exactly these cuts. It isn't
-- booted, and no upload is open.
pub record IsMadeOf (map : SectorMap) (bytes : List ℕ) (cuts : List Armed) (here : DeviceView)
    : Type 0 where
  pub flash : here.flash ≡ armed_chip map bytes cuts
  pub down : here.up ≡ false
  pub closed : AllClosed here.sessions

-- A device of this file gave these replies to the events, one to each. Its flash had these bytes
-- and was armed with these cuts. From each state that the device holds at the start, the replies
-- are a run of the machine of whole images. The run ends in a state that the device holds at the
-- end.
pub record IsPlayed (device : DeviceFile) (bytes : List ℕ) (cuts : List Armed)
    (events : List DeviceEvent) (replies : List Reply) : Type 0 where
  pub old : DeviceView
  pub new : DeviceView
  pub made : IsMadeOf device.map bytes cuts old
  pub runs : RunsTo (setup_of device) old new events replies
  pub each : length replies ≡ length events

-- The answer of a run whose last reply is this.
abbrev pub answer_after : Option Reply → Answer
answer_after None = Done
answer_after (Some reply.Done) = Done
answer_after (Some (reply.Booted table report permanent)) = Done
answer_after (Some (reply.Reverted set)) = Done
answer_after (Some (reply.TrialAgain set left)) = Done
answer_after (Some (reply.Refused fault)) = Refused
answer_after (Some reply.Cut) = Cut

-- The answer of the last of some replies.
abbrev pub last_answer : List Reply → Answer
last_answer replies = answer_after (slice_get replies (length replies - 1))

-- Whether a reply refuses something: it is a refusal, or a boot's report that refuses a request.
abbrev pub is_refusal : Reply → Bool
is_refusal (reply.Refused fault) = true
is_refusal (reply.Booted table report permanent) = nat_lt 0 (length report.refusals.items)
is_refusal other = false

-- The answer that a refused reply makes of this one. A power cut in the last event stays the answer.
abbrev pub once_refused : Answer → Answer
once_refused Done = Refused
once_refused Refused = Refused
once_refused Cut = Cut

-- The answer of a run: that of its last reply. With `--strict` it is `Refused` if any reply refuses
-- something, unless the power failed in the last event.
abbrev pub ending : Bool → Bool → Answer → Answer
ending is_strict has_refused last = if is_strict && has_refused then once_refused last else last

abbrev pub answer_of : Bool → List Reply → Answer
answer_of is_strict replies = ending is_strict (list_any is_refusal replies) (last_answer replies)

-- The event of a device, with the bytes that it borrows.
abbrev pub came_by : DeviceEvent → Event (List ℕ)
came_by lent = event_map (λ bytes. bytes.now) lent

-- The answer of a run of these events on a device of this file, whose flash has these bytes and is
-- armed with these cuts. A writer took the replies and the notes on each, in this form. Event by
-- event, the reply is Cut exactly if the flash took an armed write in it.
pub record Plays (form : Form) (is_strict : Bool) (answer : Answer) (device : DeviceFile) (bytes : List ℕ)
    (cuts : List Armed) (came : List (Event (List ℕ))) (old new : Option (List ℕ)) : Type 0 where
  pub events : List DeviceEvent
  pub replies : List Reply
  pub come : map came_by events ≡ came
  pub played : IsPlayed device bytes cuts events replies
  pub cut : CutsEach (setup_of device) played.old events replies played.new
  pub answered : answer ≡ answer_of is_strict replies
  pub notes : List (List (List ℕ))
  pub noted : length notes ≡ length replies
  pub written : Appends old new (reply_lines form 1 replies notes)

-- A device of this file, whose flash has these bytes and is armed with these cuts, replied to these
-- events. A writer took the replies and the notes on each, in this form: all of them completely, but
-- of the last one perhaps a prefix.
pub record PlaysFirst (form : Form) (device : DeviceFile) (bytes : List ℕ) (cuts : List Armed)
    (came : List (Event (List ℕ))) (old new : Option (List ℕ)) : Type 0 where
  pub events : List DeviceEvent
  pub told : List Reply
  pub last : List Reply
  pub come : map came_by events ≡ came
  pub played : IsPlayed device bytes cuts events (told ++ last)
  pub one : length last ≤ 1
  pub notes : List (List (List ℕ))
  pub late : List (List (List ℕ))
  pub count : ℕ
  pub written : Appends old new
      (reply_lines form 1 told notes
      ++ take count (reply_lines form (1 + length told) last late))

-- `run` read a device file, its flash and a script with the files that it names. It wrote the
-- replies of the device to the events of the script. Exactly the writes of the flash that the
-- script names were cut.
pub record RunsDevice (form : Form) (is_strict : Bool) (answer : Answer) (sources : List Source)
    (input : Option (List ℕ)) (files : FileBytes) (old new : Option (List ℕ)) : Type 0 where
  pub device_bytes : List ℕ
  pub of_device : DeviceFile
  pub bytes : List ℕ
  pub text : List ℕ
  pub cuts : List Armed
  pub came : List (Event (List ℕ))
  pub given : GiveEach sources input files (device_bytes ∷ bytes ∷ text ∷ [])
  pub is_device : IsDeviceFile device_bytes of_device
  pub whole : IsFlashOf of_device.map bytes
  pub script : IsScript text (known_after_each sources (record { input = input; files = files }))
      cuts came
  pub plays : Plays form is_strict answer of_device bytes cuts came old new

-- `run` read a device file, its flash and a script, and ended with an error after the events of the
-- first lines of the script. It wrote the replies of the device to these events.
pub record RunsFirst (form : Form) (sources : List Source) (input : Option (List ℕ))
    (files : FileBytes) (old new : Option (List ℕ)) : Type 0 where
  pub device_bytes : List ℕ
  pub of_device : DeviceFile
  pub bytes : List ℕ
  pub text : List ℕ
  pub cuts : List Armed
  pub lines : ℕ
  pub came : List (Event (List ℕ))
  pub given : GiveEach sources input files (device_bytes ∷ bytes ∷ text ∷ [])
  pub is_device : IsDeviceFile device_bytes of_device
  pub whole : IsFlashOf of_device.map bytes
  pub cut : AreCutsOf text cuts
  pub first : FirstCome lines text
      (known_after_each sources (record { input = input; files = files })) came
  pub plays : PlaysFirst form of_device bytes cuts came old new

-- The source contains a device file whose sizes make no map, and a writer took the line that says
-- why, in this form.
abbrev pub WritesNoMap : Form → Source → Option (List ℕ) → FileBytes
    → Option (List ℕ) → Option (List ℕ) → Type 0
WritesNoMap form source input files old new =
    (bad : BadMap) × GivesNoMap source input files bad
    × Appends old new (map_refusal_line form bad.fault)

-- The answer of `run`: it ran the device, or wrote why the sizes of the device file make no map. In
-- the second case the other files don't matter.
abbrev pub AnswersRun : Form → Bool → Answer → Source → Source → Source → Option (List ℕ)
    → FileBytes → Option (List ℕ) → Option (List ℕ) → Type 0
AnswersRun form is_strict Done device flash script input files old new =
    RunsDevice form is_strict Done (device ∷ flash ∷ script ∷ []) input files old new
AnswersRun form is_strict Refused device flash script input files old new =
    RunsDevice form is_strict Refused (device ∷ flash ∷ script ∷ []) input files old new
    ⊎ WritesNoMap form device input files old new
AnswersRun form is_strict Cut device flash script input files old new =
    RunsDevice form is_strict Cut (device ∷ flash ∷ script ∷ []) input files old new

-- The source contains a device file whose sizes make no map, and a writer took a prefix of the line
-- that says why.
abbrev pub BreaksNoMap : Form → Source → Option (List ℕ) → FileBytes
    → Option (List ℕ) → Option (List ℕ) → Type 0
BreaksNoMap form source input files old new =
    (bad : BadMap) × GivesNoMap source input files bad
    × (count : ℕ) × Appends old new (take count (map_refusal_line form bad.fault))

-- What `run` wrote before an error: nothing, the replies to the events of the first lines, or a
-- prefix of why the sizes of the device file make no map.
abbrev pub BreaksRun : Form → Source → Source → Source → Option (List ℕ) → FileBytes
    → Option (List ℕ) → Option (List ℕ) → Type 0
BreaksRun form device flash script input files old new =
    (new ≡ old)
    ⊎ (RunsFirst form (device ∷ flash ∷ script ∷ []) input files old new
    ⊎ BreaksNoMap form device input files old new)

-- The error of a run names this line of its script, and has the text of the script.
pub record NamesWrongLine (sources : List Source) (is_read : Bool) (input : Option (List ℕ))
    (files : FileBytes) (bad : ScriptLine) : Type 0 where
  pub device_bytes : List ℕ
  pub bytes : List ℕ
  pub text : List ℕ
  pub given : GiveEach sources input files (device_bytes ∷ bytes ∷ text ∷ [])
  pub shown : IsSomeAnd bad.script (λ script. script.items ≡ text)
  pub wrong : IsFaultOfRun text is_read (known_after_each sources (known_at input files)) bad.line bad.fault

-- If the error of a run names a line of its script, the line has the fault that it names, or the script
-- is too long. Standard input was read before the script was checked if it is the device file or the
-- script.
abbrev pub BlamesRun : Source → Source → Source → Option (List ℕ) → FileBytes → Refusal → Type 0
BlamesRun device flash script input files refusal =
    OnScriptLine refusal (λ bad. (bad.fault ≡ script_fault.TooLong)
    ⊎ NamesWrongLine (device ∷ flash ∷ script ∷ [])
    (is_standard_input device || is_standard_input script) input files bad)
