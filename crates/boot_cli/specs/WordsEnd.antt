-- How the program ends for its arguments.
use Rattle.std.specs.Prelude.{◌≡◌, ℕ, ◌<◌, ◌≤◌, Bool, List, Option, codes, length}
use Rattle.clap.specs.Words.{Text}
use Rattle.command_line.specs.Given.{is_json}
use Rattle.command_line.specs.OrderFaults.{IsFault}
use Rattle.command_line.specs.Orders.{GiveOrder}
use Rattle.command_line.specs.declared.orders.Order.{Order}
use Rattle.command_line.specs.declared.orders.Order.TheVariants as order
use Rattle.command_line.specs.declared.read_orders.ReadOrder.TheVariants as read
use Rattle.host.specs.declared.answer.Answer.TheVariants.{Done}
use Rattle.host.specs.Input.{FileBytes}
use Rattle.device_commands.specs.WordsEnd.{EndsWith, IsCutAnswer}
use Rattle.boot_cli.specs.JsonEnd.{AnswersOrder, form_of}

-- The order is `choose` on standard input.
abbrev pub IsInputChoice : Order → Type 0
IsInputChoice (order.Read (read.Choose table)) = table.now ≡ codes "-"
IsInputChoice _ = ⊥

-- The arguments ask for this order: they give it, or there are none after the program's own name
-- and the order is `choose` on standard input.
pub data AskFor (words : List Text) (order : Order) : Type 0 where
  by_words : 1 < length words → GiveOrder words order → AskFor words order
  by_none : length words ≤ 1 → IsInputChoice order → AskFor words order

-- The order was a run whose last reply is that the power failed, and the output keeps its answer.
abbrev pub EndsByCut : Bool → Order → Option (List ℕ) → FileBytes → FileBytes
    → Option (List ℕ) → Option (List ℕ) → Type 0
EndsByCut is_json asked input file then old new = IsCutAnswer
    (λ answer written. AnswersOrder (form_of is_json) answer asked input file then old written) new

-- What the exit status says about the arguments. The answer is JSON if they have `--json`. An order
-- that is done used its flash so.
abbrev pub EndsProgram : List Text → ℕ → (Order → Type 0) → Option (List ℕ) → FileBytes
    → FileBytes → Option (List ℕ) → Option (List ℕ) → Type 0
EndsProgram words status Uses input file then old new =
    EndsWith words (AskFor words) (IsFault words)
    (λ asked. AnswersOrder (form_of (is_json words)) Done asked input file then old new × Uses asked)
    (λ asked. EndsByCut (is_json words) asked input file then old new) status file then
