use Rattle.std.proofs.Common.{◌≡◌, ◌∙◌, ap, codes, string_bytes}
use Rattle.std.proofs.lemmas.Result.{IfOk-weaker}
use Rattle.serde_json.proofs.Views.{view-Object}
use Rattle.serde_json.specs.Data.{object, string}
use Rattle.serde_json.specs.View.{view}
use Rattle.serde_json.specs.declared.value.Value.{Object}
use Rattle.device_texts.specs.Json.{json_line, with_member, with_notes}
use Rattle.device_texts.specs.Notes.{sentences}
use Rattle.inspecting.specs.PlanJson.{result_json}
use Rattle.inspecting.proofs.JsonWholeLaws.{result-whole}
use Rattle.inspecting.proofs.fleet.result_lines.object_line.Goals as goal

-- The object has the name, the result and the notes, and no number that isn't whole.
pub returns : goal.returns
returns c =
    let name = c.args.name.now in
    let outcome = c.args.outcome.now in
    let notes = sentences c.args.notes.now in
    let same : view (Object c.put_notes.new.object) ≡ result_json name outcome notes =
    view-Object c.put_notes.new.object
    ∙ ap object (c.in_ok-put_notes.ensures
    ∙ ap (with_notes notes) (c.in_ok-put_text.ensures
    ∙ ap (with_member (codes "device") (string name)) c.in_ok-put_outcome.ensures)) in
    IfOk-weaker c.value_line.result _ (λ line. string_bytes line ≡ json_line (result_json name outcome notes))
    (λ line exact. let exact_too = rw same at exact in exact_too (result-whole name outcome notes)) c.value_line.ensures
