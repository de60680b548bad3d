-- How a program ends for its arguments: the core, and any with more orders.
use Rattle.std.specs.Prelude.{◌≡◌, ◌⊎◌, ℕ, List, Option, false}
use Rattle.clap.specs.Words.{Text}
use Rattle.clap.specs.declared.error.kind.ErrorKind.{ErrorKind}
use Rattle.command_line.specs.Orders.{GiveOrder}
use Rattle.command_line.specs.Faults.{IsDeviceFault}
use Rattle.command_line.specs.Given.{is_explained, is_json}
use Rattle.command_line.specs.Status.{AskHelp, is_help}
use Rattle.command_line.specs.declared.device_orders.DeviceOrder.{DeviceOrder}
use Rattle.command_line.specs.declared.orders.Order.TheVariants.{Device}
use Rattle.std.specs.Io.KnownBytes.{Keeps}
use Rattle.host.specs.declared.answer.Answer.{Answer}
use Rattle.host.specs.declared.answer.Answer.TheVariants.{Cut, Done}
use Rattle.host.specs.Input.{FileBytes, KeepsFiles}
use Rattle.device_texts.specs.declared.form.Form.TheVariants as form
use Rattle.device_commands.specs.CoreEnd.{AnswersCore}

-- The arguments ask for an order that has this property.
pub record AskSome {T : Type 0} (Asks Holds : T → Type 0) : Type 0 where
  pub asked : T
  pub asks : Asks asked
  pub holds : Holds asked

-- The arguments ask for nothing: neither for help or the version nor for an order.
pub record AskNothing {T : Type 0} (words : List Text) (Asks : T → Type 0) : Type 0 where
  pub no_help : AskHelp words → ⊥
  pub no_order : (asked : T) → Asks asked → ⊥

-- The arguments have a fault: the answer to them is neither help nor the version.
pub record HaveFault (IsFault : ErrorKind → Type 0) : Type 0 where
  pub kind : ErrorKind
  pub fault : IsFault kind
  pub no_help : is_help kind ≡ false

-- What the exit status says about the arguments. They may ask for such an order or have such a
-- fault, and their order may be done or end by a power cut.
pub record EndsWith {T : Type 0} (words : List Text) (Asks : T → Type 0)
    (IsFault : ErrorKind → Type 0) (IsDone IsCut : T → Type 0) (status : ℕ)
    (file then : FileBytes) : Type 0 where
  -- The status is 0 only if they ask for help or the version, or their order is done.
  pub done : status ≡ 0 → AskHelp words ⊎ AskSome Asks IsDone
  -- The status is 2 only after a fault in them.
  pub usage : status ≡ 2 → HaveFault IsFault
  -- The status is 3 only if they ask for a run whose last reply is that the power failed.
  pub cut : status ≡ 3 → AskSome Asks IsCut
  -- If they ask for nothing, the status is 2; or it is 1, if a write failed or memory ran out, or
  -- the order is none of the program's.
  pub wrong : AskNothing words Asks → (status ≡ 2) ⊎ (status ≡ 1)
  -- If they ask for nothing, no file is changed.
  pub kept : AskNothing words Asks → KeepsFiles file then

-- An answer was written that says that the power failed, and the output keeps it.
pub record IsCutAnswer (Answers : Answer → Option (List ℕ) → Type 0) (new : Option (List ℕ))
    : Type 0 where
  pub written : Option (List ℕ)
  pub answered : Answers Cut written
  pub kept : Keeps written new

-- The order was a run whose last reply is that the power failed, and the output keeps its answer.
abbrev pub EndsByCut : DeviceOrder → Option (List ℕ) → FileBytes → FileBytes
    → Option (List ℕ) → Option (List ℕ) → Type 0
EndsByCut order input file then old new =
    IsCutAnswer (λ answer written. AnswersCore form.Text answer order input file then old written) new

-- The answer isn't to be explained, and isn't to be JSON.
abbrev pub IsPlain : List Text → Type 0
IsPlain words = (is_explained words ≡ false) × (is_json words ≡ false)

-- What the exit status of the core says about the arguments. Their order is one to a device that
-- isn't to be explained, and whose answer isn't to be JSON. If it is done, it used its flash so.
abbrev pub EndsCore : List Text → ℕ → (DeviceOrder → Type 0) → Option (List ℕ) → FileBytes
    → FileBytes → Option (List ℕ) → Option (List ℕ) → Type 0
EndsCore words status Uses input file then old new =
    EndsWith words (λ order. GiveOrder words (Device order)) (IsDeviceFault words)
    (λ order. IsPlain words × AnswersCore form.Text Done order input file then old new × Uses order)
    (λ order. IsPlain words × EndsByCut order input file then old new)
    status file then
