-- The answers of sweeps and of commands that make a file, and which files a sweep keeps.
use Rattle.std.specs.Prelude.{ℕ, Bool, List, Option}
use Rattle.command_line.specs.declared.orders.Order.{Order}
use Rattle.command_line.specs.declared.orders.Order.TheVariants as order
use Rattle.host.specs.declared.answer.Answer.{Answer}
use Rattle.host.specs.declared.source.Source.{Source}
use Rattle.host.specs.Doings.{Openings}
use Rattle.host.specs.Input.{AreNamed, FileBytes, IsNamed}
use Rattle.creating.specs.CopyEnd.{AnswersCopy}
use Rattle.creating.specs.NewDeviceEnd.{AnswersNewDevice}
use Rattle.creating.specs.NewFileEnd.{Replaces}
use Rattle.creating.specs.NewImageEnd.{AnswersNewImage}
use Rattle.creating.specs.NewManifestEnd.{AnswersNewManifest}
use Rattle.device_texts.specs.declared.form.Form.{Form}
use Rattle.device_commands.specs.CoreEnd as core
use Rattle.sweep.specs.SweepEnd.{AnswersMerge, AnswersSweep, KeepsInputs, KeepsOutputs}

-- The answer to an order to sweep, or to merge outputs of sweeps, in this form.
abbrev pub AnswersSwept : Form → Answer → Order → Option (List ℕ) → FileBytes → FileBytes
    → Option (List ℕ) → Option (List ℕ) → Type 0
AnswersSwept form answer (order.Sweep device script images choices) input file then old new =
    (one other : Source) × AreNamed device.now script.now one other
    × AnswersSweep form answer one other input file old new
    × KeepsInputs one other images.items choices.picture file then
AnswersSwept form answer (order.MergeSweeps outputs picture forced) input file then old new =
    AnswersMerge form answer old new × KeepsOutputs outputs.items picture file then
AnswersSwept form answer asked input file then old new = ⊥

-- The answer to an order to make a file. The files hold `then` after it.
abbrev pub AnswersMaking : Answer → Order → Option (List ℕ) → FileBytes → FileBytes
    → Option (List ℕ) → Option (List ℕ) → Type 0
AnswersMaking answer (order.MakeDevice device) input file then old new =
    AnswersNewDevice answer device old new
AnswersMaking answer (order.MakeImage image body values) input file then old new =
    (source : Source) × IsNamed body.now source
    × AnswersNewImage answer source values input file (then image.name.now) old new
    × Replaces answer image file
AnswersMaking answer (order.MakeManifest device manifest) input file then old new =
    (source : Source) × IsNamed device.now source
    × AnswersNewManifest answer source manifest input file old new
AnswersMaking answer (order.Extract device flash image side out) input file then old new =
    (one other : Source) × AreNamed device.now flash.now one other
    × AnswersCopy answer one other image side input file (then out.name.now) old new
    × Replaces answer out file
AnswersMaking answer asked input file then old new = ⊥

-- `sweep` keeps what it reads, also with `--merge`, whatever its answer. Other orders promise
-- nothing here.
abbrev pub KeepsSwept : Order → FileBytes → FileBytes → Type 0
KeepsSwept (order.Sweep device script images choices) file then =
    (one other : Source) × AreNamed device.now script.now one other
    × KeepsInputs one other images.items choices.picture file then
KeepsSwept (order.MergeSweeps outputs picture forced) file then =
    KeepsOutputs outputs.items picture file then
KeepsSwept asked file then = Unit {0}

-- How an order that is done used its flash: a run opened it to be written, durably if `--durable` is
-- given, and all that it wrote is on the medium. Other orders promise nothing here.
abbrev pub UsesFlash : Order → Openings → Openings → Bool → Type 0
UsesFlash (order.Device asked) old new synced = core.UsesFlash asked old new synced
UsesFlash asked old new synced = Unit {0}
