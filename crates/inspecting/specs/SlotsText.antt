-- The text of what `slots` finds on the flash of a device.
use Rattle.std.specs.Prelude.{ℕ, List, [], ◌++◌, Option, Some, None, codes, decimal}
use Rattle.std.specs.List.{flat_map}
use Rattle.common.specs.Lines.{◌␣◌}
use Rattle.common.specs.declared.kind.Kind.{Kind}
use Rattle.common.specs.declared.kind.Kind.TheVariants as request
use Rattle.swap_scratch.specs.declared.progress.Progress.{Progress}
use Rattle.image_reading.specs.Codes.{code_of, name_of}
use Rattle.reports.specs.ReportText.{report_text}
use Rattle.machine.specs.declared.error.Fault.TheVariants.{InvalidSet, RunningDamaged}
use Rattle.device_texts.specs.AnswerText.{line_text}
use Rattle.inspecting.specs.ImageText.{description_text}
use Rattle.device_texts.specs.ReplyText.{refused_fault_text}
use Rattle.inspecting.specs.declared.slots_found.ImageSlots.{ImageSlots}
use Rattle.inspecting.specs.declared.slots_found.NextDecision.{NextDecision}
use Rattle.inspecting.specs.declared.slots_found.NextDecision.TheVariants as next
use Rattle.inspecting.specs.declared.slots_found.SlotContent.{SlotContent}
use Rattle.inspecting.specs.declared.slots_found.SlotContent.TheVariants.{Damaged, Erased, Intact}
use Rattle.inspecting.specs.declared.slots_found.SlotsFound.{SlotsFound}

-- The text of what a slot begins with.
abbrev pub content_text : SlotContent → List ℕ
content_text (Intact description) = description_text description
content_text Erased = codes "erased\n"
content_text (Damaged fault) =
    line_text (codes "damaged") (decimal (code_of fault) ␣ name_of fault)

-- The word for the pending request.
abbrev pub request_text : Option Kind → List ℕ
request_text (Some request.Test) = codes "test"
request_text (Some request.Permanent) = codes "permanent"
request_text None = codes "none"

-- The line of an open swap: the steps taken, and all steps.
abbrev pub moved_text : ℕ → Option Progress → List ℕ
moved_text image None = []
moved_text image (Some progress) =
    line_text (codes "moved")
    (decimal image ␣ decimal progress.taken ␣ codes "of" ␣ decimal progress.steps)

-- The line before what a slot begins with.
abbrev pub slot_line : ℕ → List ℕ → List ℕ
slot_line image side = line_text (codes "slot") (decimal image ␣ side)

-- The text of an image's slots.
abbrev pub image_text : ImageSlots → List ℕ
image_text slots =
    slot_line slots.image (codes "primary") ++ (content_text slots.primary
    ++ (slot_line slots.image (codes "secondary") ++ (content_text slots.secondary
    ++ (line_text (codes "request") (decimal slots.image ␣ request_text slots.request)
    ++ moved_text slots.image slots.moved))))

-- The text of the decision of the next boot.
abbrev pub decision_text : Option NextDecision → List ℕ
decision_text None = []
decision_text (Some (next.Decided table report)) = report_text report
decision_text (Some (next.Damaged image slot)) = refused_fault_text (RunningDamaged image)
decision_text (Some (next.Invalid table)) = refused_fault_text InvalidSet

-- The text of all that is found.
abbrev pub found_text : SlotsFound → List ℕ
found_text found = flat_map image_text found.images.items ++ decision_text found.decision
