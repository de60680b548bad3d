-- The answer of an order. A flush after the answer changes nothing.
use Rattle.std.proofs.Common.{◌≡◌, ℕ, List, Option, Result, IfOk}
use Rattle.std.specs.Io.KnownBytes.{Keeps}
use Rattle.std.proofs.KnownBytes.{Appends-kept}
use Rattle.command_line.specs.declared.orders.Order.{Order}
use Rattle.command_line.specs.declared.orders.Order.TheVariants as order
use Rattle.command_line.specs.declared.device_orders.DeviceOrder.{DeviceOrder}
use Rattle.command_line.specs.declared.orders.PlanOrder.{PlanOrder}
use Rattle.command_line.specs.declared.read_orders.ReadOrder.{ReadOrder}
use Rattle.std.proofs.lemmas.Result.{IfOk-weaker}
use Rattle.creating.proofs.CopyLaws.{AnswersCopy-kept}
use Rattle.creating.proofs.NewDeviceLaws.{AnswersNewDevice-kept}
use Rattle.creating.proofs.NewImageLaws.{AnswersNewImage-kept}
use Rattle.creating.proofs.NewManifestEnds.{AnswersNewManifest-kept}
use Rattle.device_commands.proofs.KeptLaws.{AnswersCore-kept}
use Rattle.host.specs.declared.answer.Answer.{Answer}
use Rattle.host.specs.declared.answer.Answer.TheVariants.{Done}
use Rattle.host.specs.declared.error.Refusal.{Refusal}
use Rattle.host.specs.Input.{FileBytes}
use Rattle.inspecting.proofs.PlanAnswerLaws.{AnswersPlan-kept}
use Rattle.inspecting.proofs.ReadingLaws.{AnswersReading-kept}
use Rattle.inspecting.specs.PlanAnswers.{AnswersPlan}
use Rattle.inspecting.specs.ReadingEnd.{AnswersReading}
use Rattle.device_texts.specs.declared.form.Form.{Form}
use Rattle.device_texts.specs.declared.form.Form.TheVariants as form
use Rattle.boot_cli.specs.JsonEnd.{AnswersDevice, AnswersOrder}
use Rattle.boot_cli.specs.OrderEnd.{AnswersMaking, AnswersSwept}
use Rattle.sweep.proofs.SweepEndLaws.{WritesSwept-kept}

pub AnswersSwept-kept : (form : Form) (answer : Answer) (asked : Order) (input : Option (List ℕ)) (file then : FileBytes)
    (old mid new : Option (List ℕ)) → AnswersSwept form answer asked input file then old mid → Keeps mid new
    → AnswersSwept form answer asked input file then old new
AnswersSwept-kept form answer (order.Sweep device script images choices) input file then old mid new answered kept = (
  answered.0,
  answered.1,
  answered.2,
  (answered.3.0, answered.3.1, WritesSwept-kept form answer answered.3.0 old mid new answered.3.2 kept),
  answered.4,
)
AnswersSwept-kept form answer (order.MergeSweeps outputs picture forced) input file then old mid new answered kept =
    ((answered.0.0, WritesSwept-kept form answer answered.0.0 old mid new answered.0.1 kept), answered.1)
AnswersSwept-kept form answer asked input file then old mid new answered kept = absurd answered

pub AnswersDevice-kept : (form : Form) (asked : DeviceOrder) (input : Option (List ℕ)) (file then : FileBytes)
    (old mid new : Option (List ℕ))
    → AnswersDevice form Done asked input file then old mid → Keeps mid new
    → AnswersDevice form Done asked input file then old new
AnswersDevice-kept form.Text asked input file then old mid new answered kept =
    AnswersCore-kept form.Text asked input file then old mid new answered kept
AnswersDevice-kept form.Json asked input file then old mid new answered kept =
    (answered.0, answered.1, answered.2, Appends-kept answered.0 mid new _ answered.3 kept)

pub AnswersMaking-kept : (asked : Order) (input : Option (List ℕ)) (file then : FileBytes)
    (old mid new : Option (List ℕ))
    → AnswersMaking Done asked input file then old mid → Keeps mid new
    → AnswersMaking Done asked input file then old new
AnswersMaking-kept (order.MakeDevice device) input file then old mid new answered kept =
    AnswersNewDevice-kept device old mid new answered kept
AnswersMaking-kept (order.MakeImage image body values) input file then old mid new answered kept = (
  answered.0,
  answered.1,
  AnswersNewImage-kept answered.0 values input file (then image.name.now) old mid new answered.2 kept,
  answered.3,
)
AnswersMaking-kept (order.MakeManifest device manifest) input file then old mid new answered kept =
    (answered.0, answered.1, AnswersNewManifest-kept answered.0 manifest input file old mid new answered.2 kept)
AnswersMaking-kept (order.Extract device flash image side out) input file then old mid new answered kept = (
  answered.0,
  answered.1,
  answered.2,
  AnswersCopy-kept answered.0 answered.1 image side input file (then out.name.now) old mid new answered.3 kept,
  answered.4,
)
AnswersMaking-kept asked input file then old mid new answered kept = absurd answered

pub AnswersOrder-kept : (form : Form) (asked : Order) (input : Option (List ℕ)) (file then : FileBytes)
    (old mid new : Option (List ℕ))
    → AnswersOrder form Done asked input file then old mid → Keeps mid new
    → AnswersOrder form Done asked input file then old new
AnswersOrder-kept form (order.Read asked) input file then old mid new answered kept =
    AnswersReading-kept form Done asked input file old mid new answered kept
AnswersOrder-kept form (order.Device asked) input file then old mid new answered kept =
    AnswersDevice-kept form asked input file then old mid new answered kept
AnswersOrder-kept form (order.Plan asked) input file then old mid new answered kept =
    AnswersPlan-kept form asked input file old mid new answered kept
AnswersOrder-kept form (order.Sweep device script images choices) input file then old mid new answered kept =
    AnswersSwept-kept form Done (order.Sweep device script images choices) input file then old mid new answered kept
AnswersOrder-kept form (order.MergeSweeps outputs picture forced) input file then old mid new answered kept =
    AnswersSwept-kept form Done (order.MergeSweeps outputs picture forced) input file then old mid new answered kept
AnswersOrder-kept form asked input file then old mid new answered kept =
    AnswersMaking-kept asked input file then old mid new answered kept

-- ---- the answer to an order is that of its command, in the form that is asked for

pub reading-answered : (form : Form) (asked : Order) (reading : ReadOrder) (result : Result Answer Refusal)
    (input : Option (List ℕ)) (file then : FileBytes) (old new : Option (List ℕ)) → asked ≡ order.Read reading
    → IfOk result (λ answer. AnswersReading form answer reading input file old new)
    → IfOk result (λ answer. AnswersOrder form answer asked input file then old new)
reading-answered form asked reading result input file then old new same answered = rw same answered

pub device-answered : (form : Form) (asked : Order) (ordered : DeviceOrder) (result : Result Answer Refusal)
    (input : Option (List ℕ)) (file then : FileBytes) (old new : Option (List ℕ)) → asked ≡ order.Device ordered
    → IfOk result (λ answer. AnswersDevice form answer ordered input file then old new)
    → IfOk result (λ answer. AnswersOrder form answer asked input file then old new)
device-answered form asked ordered result input file then old new same answered = rw same answered

pub plan-answered : (form : Form) (asked : Order) (ordered : PlanOrder) (result : Result Answer Refusal)
    (input : Option (List ℕ)) (file then : FileBytes) (old new : Option (List ℕ)) → asked ≡ order.Plan ordered
    → IfOk result (λ answer. AnswersPlan form answer ordered input file old new)
    → IfOk result (λ answer. AnswersOrder form answer asked input file then old new)
plan-answered form asked ordered result input file then old new same answered = rw same answered

swept-answer : (form : Form) (answer : Answer) (asked : Order) (input : Option (List ℕ)) (file then : FileBytes)
    (old new : Option (List ℕ)) → AnswersSwept form answer asked input file then old new
    → AnswersOrder form answer asked input file then old new
swept-answer form answer (order.Sweep device script images choices) input file then old new swept = swept
swept-answer form answer (order.MergeSweeps outputs picture forced) input file then old new swept = swept
swept-answer form answer asked input file then old new swept = absurd swept

pub swept-answered : (form : Form) (asked : Order) (result : Result Answer Refusal) (input : Option (List ℕ))
    (file then : FileBytes) (old new : Option (List ℕ))
    → IfOk result (λ answer. AnswersSwept form answer asked input file then old new)
    → IfOk result (λ answer. AnswersOrder form answer asked input file then old new)
swept-answered form asked result input file then old new = IfOk-weaker result _ _
    (λ answer swept. swept-answer form answer asked input file then old new swept)

making-answer : (form : Form) (answer : Answer) (asked : Order) (input : Option (List ℕ)) (file then : FileBytes)
    (old new : Option (List ℕ)) → AnswersMaking answer asked input file then old new
    → AnswersOrder form answer asked input file then old new
making-answer form answer (order.MakeDevice device) input file then old new made = made
making-answer form answer (order.MakeImage image body values) input file then old new made = made
making-answer form answer (order.MakeManifest device manifest) input file then old new made = made
making-answer form answer (order.Extract device flash image side out) input file then old new made = made
making-answer form answer asked input file then old new made = absurd made

pub making-answered : (form : Form) (asked : Order) (result : Result Answer Refusal) (input : Option (List ℕ))
    (file then : FileBytes) (old new : Option (List ℕ))
    → IfOk result (λ answer. AnswersMaking answer asked input file then old new)
    → IfOk result (λ answer. AnswersOrder form answer asked input file then old new)
making-answered form asked result input file then old new = IfOk-weaker result _ _
    (λ answer made. making-answer form answer asked input file then old new made)
