-- The exit status and the answer of an order. A flush after the answer changes nothing.
use Rattle.std.proofs.Common.{◌≡◌, ℕ, Bool, List, Ok, Option, Result, refl}
use Rattle.std.specs.Prelude.{IfOk}
use Rattle.std.specs.Io.KnownBytes.{Keeps}
use Rattle.command_line.specs.declared.orders.Order.{Order}
use Rattle.host.specs.declared.answer.Answer.{Answer}
use Rattle.host.specs.declared.answer.Answer.TheVariants.{Done}
use Rattle.host.specs.declared.error.Refusal.{Refusal}
use Rattle.host.specs.Status.{Ends}
use Rattle.host.specs.Input.{FileBytes}
use Rattle.device_commands.proofs.WordsLaws.{only_cut}
use Rattle.boot_cli.specs.JsonEnd.{AnswersOrder, form_of}
use Rattle.boot_cli.specs.WordsEnd.{EndsByCut}
use Rattle.boot_cli.proofs.JsonLaws.{AnswersOrder-kept}

-- A command with an answer ends with status 0 only after `Done`. The output keeps what was written
-- before the flush.
pub done_after : (is_json : Bool) (asked : Order) (outcome : Result Answer Refusal) (status : ℕ)
    (input : Option (List ℕ)) (file then : FileBytes) (old mid new : Option (List ℕ))
    → IfOk outcome (λ answer. AnswersOrder (form_of is_json) answer asked input file then old mid)
    → (status ≡ 0 → outcome ≡ Ok Done) → Keeps mid new
    → status ≡ 0 → AnswersOrder (form_of is_json) Done asked input file then old new
done_after is_json asked outcome status input file then old mid new answers is_done kept zero =
    let done = is_done zero in
    let answered = rw done at answers in AnswersOrder-kept (form_of is_json) asked input file then old mid new answered kept

-- A command with an answer ends with status 3 only after `Cut`.
pub cut_after : (is_json : Bool) (asked : Order) (outcome : Result Answer Refusal) (status : ℕ)
    (input : Option (List ℕ)) (file then : FileBytes) (old mid new : Option (List ℕ))
    → IfOk outcome (λ answer. AnswersOrder (form_of is_json) answer asked input file then old mid)
    → Ends outcome status → Keeps mid new
    → status ≡ 3 → EndsByCut is_json asked input file then old new
cut_after is_json asked outcome status input file then old mid new answers ends kept three =
    let is_cut = only_cut outcome status ends three in
    record { written = mid; answered = rw is_cut at answers; kept = kept }

-- What holds of an answer that is done holds if the status is 0.
pub used_after : (outcome : Result Answer Refusal) (status : ℕ) (Used : Type 0)
    → IfOk outcome (λ answer. answer ≡ Done → Used) → (status ≡ 0 → outcome ≡ Ok Done)
    → status ≡ 0 → Used
used_after outcome status Used used is_done zero = let one = rw (is_done zero) at used in one refl
