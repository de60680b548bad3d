-- A line of a script, with the bytes of its words instead of references to them.
use Rattle.std.specs.Prelude.{ℕ, List, Option, option_map}
use Rattle.machine.specs.declared.event.Event as events
use Rattle.machine.specs.Event.{event_map}
use Rattle.device_texts.specs.declared.line.FileText.{FileText}
use Rattle.device_texts.specs.declared.line.Line.{Line}
use Rattle.device_texts.specs.declared.line.Line.TheVariants as line
use Rattle.device_texts.specs.declared.line.TornText.{TornText}
use Rattle.device_texts.specs.declared.line.TornText.TheVariants as torn
use Rattle.device_texts.specs.declared.part.PartText.{PartText}

-- What an interrupted write leaves.
pub data SaidTorn : Type 0 where
  Keep : SaidTorn
  Done : SaidTorn
  Hex : List ℕ → SaidTorn

-- The words FROM and COUNT.
pub record PartWords : Type 0 where
  pub from : List ℕ
  pub count : List ℕ

-- The file of a line: its name, and the part of it, or `None` for the complete file.
pub record SaidFile : Type 0 where
  pub name : List ℕ
  pub part : Option PartWords

-- The file with this name, and this part of it.
abbrev pub file_of : List ℕ → Option PartWords → SaidFile
file_of name part = record { name = name; part = part }

-- An event of the device.
abbrev pub SaidEvent : Type 0
SaidEvent = events.Event SaidFile

-- A line.
pub data Said : Type 0 where
  Cut : ℕ → SaidTorn → Said
  Event : SaidEvent → Said

abbrev pub said_torn : TornText → SaidTorn
said_torn torn.Keep = Keep
said_torn torn.Done = Done
said_torn (torn.Hex digits) = Hex digits.now

abbrev pub part_words : PartText → PartWords
part_words part = record { from = part.from.now; count = part.count.now }

abbrev pub said_file : FileText → SaidFile
said_file file = file_of file.name.now (option_map part_words file.part)

-- The line that was read.
abbrev pub said : Line → Said
said (line.Cut write torn) = Cut write (said_torn torn)
said (line.Event event) = Event (event_map said_file event)
