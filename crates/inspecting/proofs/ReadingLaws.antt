-- A flush after the answer of a read-only command changes nothing.
use Rattle.std.proofs.Common.{ℕ, List, Option}
use Rattle.std.specs.Io.KnownBytes.{Keeps}
use Rattle.std.proofs.KnownBytes.{Appends-kept}
use Rattle.command_line.specs.declared.read_orders.ReadOrder.{ReadOrder}
use Rattle.host.specs.declared.answer.Answer.{Answer}
use Rattle.host.specs.Input.{FileBytes}
use Rattle.inspecting.specs.Inspection.{written}
use Rattle.inspecting.specs.ReadingEnd.{AnswersReading}
use Rattle.device_texts.specs.declared.form.Form.{Form}

pub AnswersReading-kept : (form : Form) (answer : Answer) (asked : ReadOrder) (input : Option (List ℕ)) (file : FileBytes)
    (old mid new : Option (List ℕ)) → AnswersReading form answer asked input file old mid → Keeps mid new
    → AnswersReading form answer asked input file old new
AnswersReading-kept form answer asked input file old mid new answered kept = (
  answered.0,
  answered.1,
  answered.2,
  answered.3,
  Appends-kept old mid new (written form answered.1 answered.0) answered.4 kept,
)
