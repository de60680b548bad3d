use Rattle.std.proofs.Common.{string_bytes}
use Rattle.inspecting.specs.Inspection.{answer_of, text_of, written}
use Rattle.device_texts.specs.Notes.{sentences}
use Rattle.device_texts.specs.declared.form.Form.TheVariants as form
use Rattle.inspecting.proofs.InspectionLaws.{written-made}
use Rattle.inspecting.proofs.inspection.write_inspection.Goals as goal

-- The object was made in memory, and written.
pub returns-in-Json : goal.returns-in-Json
returns-in-Json g c =
    let found = c.args.found.now in
    rw c.in-Json.is
    (written-made c.object_line.result (λ text. string_bytes text) c.answer-answer.result (answer_of found)
    (written form.Json (sentences c.args.notes.now) found) c.write_answer-in-Json.result _ _
    c.answer-answer.ensures c.object_line.ensures
    c.write_answer-in-Json.ensures.no_text c.write_answer-in-Json.ensures.text)

-- The text was made in memory, and written.
pub returns-in_default : goal.returns-in_default
returns-in_default g c =
    let found = c.args.found.now in
    rw c.in-Text.is
    (written-made c.text.result (λ text. string_bytes text) c.answer-answer.result (answer_of found) (text_of found)
    c.write_answer.result _ _ c.answer-answer.ensures c.text.ensures
    c.write_answer.ensures.no_text c.write_answer.ensures.text)
