-- A flush after the answer of a command changes nothing.
use Rattle.std.proofs.Common.{ℕ, Bool, List, Option}
use Rattle.std.proofs.KnownBytes.{Appends-kept}
use Rattle.std.specs.Io.KnownBytes.{Keeps}
use Rattle.command_line.specs.declared.device_orders.DeviceOrder.{DeviceOrder}
use Rattle.command_line.specs.declared.device_orders.DeviceOrder.TheVariants.{Provision, Run}
use Rattle.host.specs.declared.answer.Answer.TheVariants.{Done}
use Rattle.device_commands.specs.declared.provision.NewFlash.{NewFlash}
use Rattle.device_commands.specs.declared.provision.Provisioned.{Provisioned}
use Rattle.device_commands.specs.declared.provision.Provisioned.TheVariants as made
use Rattle.host.specs.declared.source.Source.{Source}
use Rattle.host.specs.declared.source.Source.TheVariants as source
use Rattle.host.specs.Input.{FileBytes}
use Rattle.host.specs.Inputs.{names_of}
use Rattle.device_texts.specs.declared.form.Form.{Form}
use Rattle.device_commands.specs.CoreEnd.{AnswersCore}
use Rattle.device_commands.specs.ProvisionEnd.{AnswersMade, AnswersProvision}
use Rattle.device_commands.specs.RunEnd.{AnswersRun}

AnswersMade-kept : (made : Provisioned) (old mid new : Option (List ℕ))
    → AnswersMade Done made old mid → Keeps mid new → AnswersMade Done made old new
AnswersMade-kept made.Done old mid new answered kept =
    (answered.0, Appends-kept old mid new _ answered.1 kept)
AnswersMade-kept (made.Refused fault) old mid new answered kept =
    (answered.0, Appends-kept old mid new _ answered.1 kept)

AnswersProvision-kept : (flash : NewFlash) (device : Source) (names : List (List ℕ)) (input : Option (List ℕ))
    (file : FileBytes) (held old mid new : Option (List ℕ))
    → AnswersProvision Done flash device names input file held old mid → Keeps mid new
    → AnswersProvision Done flash device names input file held old new
AnswersProvision-kept flash device names input file held old mid new answered kept = record {
  device_bytes = answered.device_bytes;
  of_device = answered.of_device;
  sources = answered.sources;
  contents = answered.contents;
  outcome = answered.outcome;
  named = answered.named;
  given = answered.given;
  is_device = answered.is_device;
  fit = answered.fit;
  made = answered.made;
  answered = AnswersMade-kept answered.outcome old mid new answered.answered kept;
}

AnswersRun-kept : (form : Form) (is_strict : Bool) (device flash script : Source) (input : Option (List ℕ)) (file : FileBytes)
    (old mid new : Option (List ℕ))
    → AnswersRun form is_strict Done device flash script input file old mid → Keeps mid new
    → AnswersRun form is_strict Done device flash script input file old new
AnswersRun-kept form is_strict device flash script input file old mid new answered kept = record {
  device_bytes = answered.device_bytes;
  of_device = answered.of_device;
  bytes = answered.bytes;
  text = answered.text;
  cuts = answered.cuts;
  came = answered.came;
  given = answered.given;
  is_device = answered.is_device;
  whole = answered.whole;
  script = answered.script;
  plays = record {
    events = answered.plays.events;
    replies = answered.plays.replies;
    come = answered.plays.come;
    played = answered.plays.played;
    cut = answered.plays.cut;
    answered = answered.plays.answered;
    notes = answered.plays.notes;
    noted = answered.plays.noted;
    written = Appends-kept old mid new _ answered.plays.written kept;
  };
}

pub AnswersCore-kept : (form : Form) (asked : DeviceOrder) (input : Option (List ℕ)) (file then : FileBytes)
    (old mid new : Option (List ℕ))
    → AnswersCore form Done asked input file then old mid → Keeps mid new
    → AnswersCore form Done asked input file then old new
AnswersCore-kept form (Provision device flash images forced) input file then old mid new answered kept = (
  answered.0,
  answered.1,
  AnswersProvision-kept (record { name = flash; is_forced = forced }) answered.0 (names_of images.items) input file (then flash.now) old mid new answered.2 kept,
)
AnswersCore-kept form (Run device flash script durable strict) input file then old mid new answered kept = (
  answered.0,
  answered.1,
  answered.2,
  AnswersRun-kept form strict answered.0 (source.File flash) answered.1 input file old mid new answered.3 kept,
)
