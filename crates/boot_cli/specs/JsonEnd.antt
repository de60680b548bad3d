-- The answer to an order as JSON, or as text.
use Rattle.std.specs.Prelude.{ℕ, Bool, List, Option, false, true}
use Rattle.std.specs.Io.KnownBytes.{Appends}
use Rattle.command_line.specs.declared.device_orders.DeviceOrder.{DeviceOrder}
use Rattle.command_line.specs.declared.orders.Order.{Order}
use Rattle.command_line.specs.declared.orders.Order.TheVariants as order
use Rattle.host.specs.declared.answer.Answer.{Answer}
use Rattle.host.specs.Input.{FileBytes}
use Rattle.device_commands.specs.CoreEnd.{AnswersCore}
use Rattle.device_texts.specs.ReplyJson.{last_notes}
use Rattle.inspecting.specs.PlanAnswers.{AnswersPlan}
use Rattle.inspecting.specs.ReadingEnd.{AnswersReading}
use Rattle.device_texts.specs.declared.form.Form.{Form}
use Rattle.device_texts.specs.declared.form.Form.TheVariants as form
use Rattle.boot_cli.specs.OrderEnd.{AnswersMaking, AnswersSwept}

-- The answer to an order to a device. As JSON it is an object for each reply of a run, and then one
-- of the notes on its end, if there are any.
abbrev pub AnswersDevice : Form → Answer → DeviceOrder → Option (List ℕ) → FileBytes → FileBytes
    → Option (List ℕ) → Option (List ℕ) → Type 0
AnswersDevice form.Text answer asked input file then old new =
    AnswersCore form.Text answer asked input file then old new
AnswersDevice form.Json answer asked input file then old new =
    (mid : Option (List ℕ)) × (notes : List (List ℕ))
    × AnswersCore form.Json answer asked input file then old mid × Appends mid new (last_notes notes)

-- The form of an answer.
abbrev pub form_of : Bool → Form
form_of true = form.Json
form_of false = form.Text

-- The answer to an order in this form. As JSON it is, of a read-only command, the object of what it
-- finds, of a sweep that of its result, of a run an object for each reply, and of a plan one for each
-- device or that of its summary. A command that makes a file has its answer as a text. The files hold
-- `then` after it.
abbrev pub AnswersOrder : Form → Answer → Order → Option (List ℕ) → FileBytes → FileBytes
    → Option (List ℕ) → Option (List ℕ) → Type 0
AnswersOrder form answer (order.Read asked) input file then old new =
    AnswersReading form answer asked input file old new
AnswersOrder form answer (order.Device asked) input file then old new =
    AnswersDevice form answer asked input file then old new
AnswersOrder form answer (order.Plan asked) input file then old new =
    AnswersPlan form answer asked input file old new
AnswersOrder form answer (order.Sweep device script images choices) input file then old new =
    AnswersSwept form answer (order.Sweep device script images choices) input file then old new
AnswersOrder form answer (order.MergeSweeps outputs picture forced) input file then old new =
    AnswersSwept form answer (order.MergeSweeps outputs picture forced) input file then old new
AnswersOrder form answer asked input file then old new =
    AnswersMaking answer asked input file then old new
