-- The answers to the orders to a device.
use Rattle.std.specs.Prelude.{ℕ, Bool, IsTrue, List, Option, false, true}
use Rattle.command_line.specs.declared.device_orders.DeviceOrder.{DeviceOrder}
use Rattle.command_line.specs.declared.device_orders.DeviceOrder.TheVariants.{Provision, Run}
use Rattle.host.specs.declared.answer.Answer.{Answer}
use Rattle.host.specs.declared.error.Refusal.{Refusal}
use Rattle.host.specs.declared.host.Access.{Access}
use Rattle.host.specs.declared.host.Access.TheVariants.{Write, WriteDurably}
use Rattle.host.specs.Doings.{IsOpenedFor, Openings}
use Rattle.host.specs.declared.source.Source.{Source}
use Rattle.host.specs.declared.source.Source.TheVariants as source
use Rattle.host.specs.Input.{AreNamed, FileBytes, IsNamed}
use Rattle.host.specs.Inputs.{names_of}
use Rattle.device_texts.specs.declared.form.Form.{Form}
use Rattle.device_commands.specs.ProvisionEnd.{AnswersProvision}
use Rattle.device_commands.specs.RunEnd.{AnswersRun, BlamesRun, BreaksRun}

-- What a run opens its flash for, with `--durable` and without it.
abbrev pub access_for : Bool → Access
access_for true = WriteDurably
access_for false = Write

-- How an order that is done used its flash. A run opened it to be written, durably if `--durable` is
-- given, and all that it wrote is on the medium.
abbrev pub UsesFlash : DeviceOrder → Openings → Openings → Bool → Type 0
UsesFlash (Provision device flash images forced) old new synced = Unit {0}
UsesFlash (Run device flash script durable strict) old new synced =
    IsOpenedFor (access_for durable) old new × IsTrue synced

-- The answer to an order of this command, and what the files hold after it. The replies of a run are
-- written in this form.
abbrev pub AnswersCore : Form → Answer → DeviceOrder → Option (List ℕ) → FileBytes → FileBytes
    → Option (List ℕ) → Option (List ℕ) → Type 0
AnswersCore form answer (Provision device flash images forced) input file then old new =
    (source : Source) × IsNamed device.now source
    × AnswersProvision answer (record { name = flash; is_forced = forced }) source
    (names_of images.items) input file (then flash.now) old new
AnswersCore form answer (Run device flash script durable strict) input file then old new =
    (one other : Source) × AreNamed device.now script.now one other
    × AnswersRun form strict answer one (source.File flash) other input file old new

-- What an order wrote before an error. A run wrote replies in this form. Nothing is promised of
-- `provision`.
abbrev pub BreaksCore : Form → DeviceOrder → Option (List ℕ) → FileBytes
    → Option (List ℕ) → Option (List ℕ) → Type 0
BreaksCore form (Provision device flash images forced) input file old new = Unit {0}
BreaksCore form (Run device flash script durable strict) input file old new =
    (one other : Source) × AreNamed device.now script.now one other
    × BreaksRun form one (source.File flash) other input file old new

-- What the error of an order names. Nothing is promised of `provision`.
abbrev pub BlamesCore : DeviceOrder → Option (List ℕ) → FileBytes → Refusal → Type 0
BlamesCore (Provision device flash images forced) input file refusal = Unit {0}
BlamesCore (Run device flash script durable strict) input file refusal =
    (one other : Source) × AreNamed device.now script.now one other
    × BlamesRun one (source.File flash) other input file refusal
