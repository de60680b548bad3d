-- What a read-only command finds for its order, and what it writes.
use Rattle.std.specs.Prelude.{◌≡◌, ℕ, List, Option, map}
use Rattle.std.specs.Io.KnownBytes.{Appends}
use Rattle.command_line.specs.CodeList.{code_groups, group_of}
use Rattle.command_line.specs.declared.read_orders.ReadOrder.{ReadOrder}
use Rattle.command_line.specs.declared.read_orders.ReadOrder.TheVariants as order
use Rattle.host.specs.declared.answer.Answer.{Answer}
use Rattle.host.specs.declared.source.Source.{Source}
use Rattle.host.specs.Input.{AreNamed, FileBytes, IsNamed}
use Rattle.inspecting.specs.Answers.{FindsChoice, FindsDescription, FindsManifest, FindsOnFlash, FindsVerdict}
use Rattle.inspecting.specs.FlashText.{IsFoundOn}
use Rattle.inspecting.specs.Inspection.{answer_of, written}
use Rattle.inspecting.specs.declared.flash_text.FlashText.TheVariants.{Slots, State}
use Rattle.device_texts.specs.declared.form.Form.{Form}
use Rattle.inspecting.specs.declared.inspection.Inspection.{Inspection}
use Rattle.inspecting.specs.declared.inspection.Inspection.TheVariants as found

-- The groups of codes are listed.
abbrev pub ListsCodes : Inspection → Type 0
ListsCodes (found.Codes list) = map group_of list.groups ≡ code_groups
ListsCodes other = ⊥

-- What the command of an order finds.
abbrev pub Finds : ReadOrder → Option (List ℕ) → FileBytes → Inspection → Type 0
Finds (order.Choose table) input files it =
    (source : Source) × IsNamed table.now source × FindsChoice source input files it
Finds (order.Check table report) input files it =
    (one other : Source) × AreNamed table.now report.now one other
    × FindsVerdict one other input files it
Finds (order.Image image) input files it =
    (source : Source) × IsNamed image.now source × FindsDescription source input files it
Finds (order.Manifest device named) input files it =
    (one other : Source) × AreNamed device.now named.now one other
    × FindsManifest one other input files it
Finds (order.Show device flash) input files it =
    (one other : Source) × AreNamed device.now flash.now one other
    × FindsOnFlash (IsFoundOn State) one other input files it
Finds (order.Slots device flash) input files it =
    (one other : Source) × AreNamed device.now flash.now one other
    × FindsOnFlash (IsFoundOn Slots) one other input files it
Finds order.Codes input files it = ListsCodes it

-- What was found was written in this form. A JSON object may have notes.
abbrev pub AnswersReading : Form → Answer → ReadOrder → Option (List ℕ) → FileBytes
    → Option (List ℕ) → Option (List ℕ) → Type 0
AnswersReading form answer asked input files old new =
    (it : Inspection) × (notes : List (List ℕ)) × Finds asked input files it
    × (answer ≡ answer_of it) × Appends old new (written form notes it)
