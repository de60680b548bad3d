-- What an order wrote to the output before an error.
use Rattle.std.proofs.Common.{◌≡◌, ℕ, Bool, List, Option, Result, Ok, Err, IfOk, OnErr, false, inl, inr, true}
use Rattle.std.specs.Io.KnownBytes.{Keeps}
use Rattle.clap.specs.Words.{Text}
use Rattle.command_line.specs.Given.{is_json}
use Rattle.command_line.specs.OrderFaults.{IsRefusal}
use Rattle.command_line.specs.Status.{EndsWords}
use Rattle.command_line.specs.declared.device_orders.DeviceOrder.{DeviceOrder}
use Rattle.command_line.specs.declared.error.OrderError.{OrderError}
use Rattle.command_line.specs.declared.orders.Order.{Order}
use Rattle.command_line.specs.declared.orders.Order.TheVariants as order
use Rattle.command_line.specs.declared.orders.PlanOrder.{PlanOrder}
use Rattle.host.specs.declared.answer.Answer.{Answer}
use Rattle.host.specs.declared.error.Refusal.{Refusal}
use Rattle.host.specs.Input.{FileBytes}
use Rattle.inspecting.specs.PlanAnswers.{BreaksPlan}
use Rattle.boot_cli.specs.ErrorEnd.{BreaksDevice, BreaksOrder, WritesAsked, WritesOrder}
use Rattle.boot_cli.specs.JsonEnd.{AnswersOrder, form_of}
use Rattle.boot_cli.specs.WordsEnd.{AskFor}

-- What holds anyway holds after an error.
pub OnErr-any : {T E P : Type 0} (result : Result T E) → P → OnErr result P
OnErr-any (Ok value) holds = tt
OnErr-any (Err error) holds = holds

-- What an order to a device wrote before an error is what the order wrote.
pub device-broken : (is_json : Bool) (asked : Order) (ordered : DeviceOrder) (result : Result Answer Refusal)
    (input : Option (List ℕ)) (file then : FileBytes) (old new : Option (List ℕ)) → asked ≡ order.Device ordered
    → OnErr result (BreaksDevice (form_of is_json) ordered input file then old new)
    → OnErr result (BreaksOrder is_json asked input file then old new)
device-broken is_json asked ordered result input file then old new same broken = rw same broken

pub plan-broken : (is_json : Bool) (asked : Order) (ordered : PlanOrder) (result : Result Answer Refusal)
    (input : Option (List ℕ)) (file then : FileBytes) (old new : Option (List ℕ)) → asked ≡ order.Plan ordered
    → OnErr result (BreaksPlan (form_of is_json) ordered input file old new)
    → OnErr result (BreaksOrder is_json asked input file then old new)
plan-broken is_json asked ordered result input file then old new same broken = rw same broken

-- Other orders promise nothing.
pub other-broken : (is_json : Bool) (asked : Order) (result : Result Answer Refusal)
    (input : Option (List ℕ)) (file then : FileBytes) (old new : Option (List ℕ))
    → BreaksOrder is_json asked input file then old new
    → OnErr result (BreaksOrder is_json asked input file then old new)
other-broken is_json asked result input file then old new broken = OnErr-any result broken

-- The output has the answer of an order, or what it wrote before its error, whatever the status is.
pub WritesOrder-ended : (is_json : Bool) (asked : Order) (outcome : Result Answer Refusal)
    (input : Option (List ℕ)) (file then : FileBytes) (old mid new : Option (List ℕ))
    → IfOk outcome (λ answer. AnswersOrder (form_of is_json) answer asked input file then old mid)
    → OnErr outcome (BreaksOrder is_json asked input file then old mid)
    → Keeps mid new → WritesOrder is_json asked input file then old new
WritesOrder-ended is_json asked (Ok answer) input file then old mid new answers breaks kept =
    record { written = mid; was = inl (answer, answers); kept = kept }
WritesOrder-ended is_json asked (Err refusal) input file then old mid new answers breaks kept =
    record { written = mid; was = inr breaks; kept = kept }

-- Arguments that ask for an order.
pub WritesAsked-order : (words : List Text) (asked : Order) (wanted : Bool) (status : ℕ) (input : Option (List ℕ))
    (file then : FileBytes) (old new : Option (List ℕ)) → AskFor words asked → wanted ≡ is_json words
    → WritesOrder wanted asked input file then old new → WritesAsked words status input file then old new
WritesAsked-order words asked wanted status input file then old new asks same writes =
    inl (record { asked = asked; asks = asks; holds = rw same at writes })

-- Arguments that give no order.
pub WritesAsked-error : (words : List Text) (error : OrderError) (status : ℕ) (input : Option (List ℕ))
    (file then : FileBytes) (old new : Option (List ℕ)) → IsRefusal words error → EndsWords error status
    → WritesAsked words status input file then old new
WritesAsked-error words error status input file then old new refused ends = inr (error, refused, ends)
