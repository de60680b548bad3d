-- What an order wrote to the output before an error.
use Rattle.std.specs.Prelude.{◌⊎◌, ℕ, Bool, List, Option}
use Rattle.std.specs.Io.KnownBytes.{Keeps}
use Rattle.clap.specs.Words.{Text}
use Rattle.command_line.specs.Given.{is_json}
use Rattle.command_line.specs.OrderFaults.{IsRefusal}
use Rattle.command_line.specs.Status.{EndsWords}
use Rattle.command_line.specs.declared.device_orders.DeviceOrder.{DeviceOrder}
use Rattle.command_line.specs.declared.error.OrderError.{OrderError}
use Rattle.command_line.specs.declared.orders.Order.{Order}
use Rattle.command_line.specs.declared.orders.Order.TheVariants as order
use Rattle.host.specs.declared.answer.Answer.{Answer}
use Rattle.host.specs.Input.{FileBytes}
use Rattle.device_commands.specs.CoreEnd.{AnswersCore, BreaksCore}
use Rattle.device_commands.specs.WordsEnd.{AskSome}
use Rattle.device_texts.specs.ReplyJson.{last_notes}
use Rattle.device_texts.specs.declared.form.Form.{Form}
use Rattle.device_texts.specs.declared.form.Form.TheVariants as form
use Rattle.inspecting.specs.PlanAnswers.{BreaksPlan}
use Rattle.inspecting.specs.Written.{TakesPrefix}
use Rattle.boot_cli.specs.JsonEnd.{AnswersOrder, form_of}
use Rattle.boot_cli.specs.WordsEnd.{AskFor}

-- What an order to a device wrote before an error. As JSON it may also be the complete answer, and a
-- prefix of the object of the notes on its end.
abbrev pub BreaksDevice : Form → DeviceOrder → Option (List ℕ) → FileBytes → FileBytes
    → Option (List ℕ) → Option (List ℕ) → Type 0
BreaksDevice form.Text asked input file then old new = BreaksCore form.Text asked input file old new
BreaksDevice form.Json asked input file then old new =
    BreaksCore form.Json asked input file old new
    ⊎ ((answer : Answer) × (mid : Option (List ℕ)) × (notes : List (List ℕ))
    × AnswersCore form.Json answer asked input file then old mid
    × TakesPrefix (last_notes notes) mid new)

-- What an order wrote before an error, as JSON or as text: of a run the first replies, and of a plan
-- the results of the first devices. Of the last of them it may be a prefix. Other orders promise
-- nothing here.
abbrev pub BreaksOrder : Bool → Order → Option (List ℕ) → FileBytes → FileBytes
    → Option (List ℕ) → Option (List ℕ) → Type 0
BreaksOrder is_json (order.Device asked) input file then old new =
    BreaksDevice (form_of is_json) asked input file then old new
BreaksOrder is_json (order.Plan asked) input file then old new =
    BreaksPlan (form_of is_json) asked input file old new
BreaksOrder is_json asked input file then old new = Unit {0}

-- The output has what an order wrote, and keeps it: its answer, or what it wrote before an error.
pub record WritesOrder (is_json : Bool) (asked : Order) (input : Option (List ℕ))
    (file then : FileBytes) (old new : Option (List ℕ)) : Type 0 where
  pub written : Option (List ℕ)
  pub was : ((answer : Answer) × AnswersOrder (form_of is_json) answer asked input file then old written)
      ⊎ BreaksOrder is_json asked input file then old written
  pub kept : Keeps written new

-- The arguments gave no order, and the program ended with the status of this error.
abbrev pub EndsUnread : List Text → ℕ → Type 0
EndsUnread words status = (error : OrderError) × IsRefusal words error × EndsWords error status

-- The output has what the order of the arguments wrote. The answer is JSON if they have `--json`.
-- Otherwise the arguments gave no order.
abbrev pub WritesAsked : List Text → ℕ → Option (List ℕ) → FileBytes → FileBytes
    → Option (List ℕ) → Option (List ℕ) → Type 0
WritesAsked words status input file then old new =
    AskSome (AskFor words) (λ asked. WritesOrder (is_json words) asked input file then old new)
    ⊎ EndsUnread words status
