use Rattle.std.proofs.Common.{◌≡◌, ◌∙◌, ap, refl, rules}
use Rattle.serde_json.proofs.Views.{view-Object}
use Rattle.serde_json.specs.Data.{no_members, object}
use Rattle.serde_json.specs.View.{members_view, view}
use Rattle.serde_json.specs.declared.value.Value.{Object}
use Rattle.device_texts.specs.Json.{with_notes}
use Rattle.device_texts.specs.Notes.{sentences}
use Rattle.inspecting.specs.SummaryJson.{summary_json}
use Rattle.inspecting.proofs.JsonWholeLaws.{summary-whole}
use Rattle.inspecting.proofs.ResultLaws.{IfOk-then}
use Rattle.inspecting.proofs.fleet.summary_lines.object_line.Goals as goal

-- The object has the rows and the notes, and no number that isn't whole.
pub returns : goal.returns
returns c =
    let made = c.in_ok-values.ensures in
    let notes = sentences c.args.notes.now in
    let empty : members_view c.new-object.result.entries ≡ no_members = search rules in
    let same : view (Object c.put_notes.new.object) ≡ summary_json made.0 notes =
    view-Object c.put_notes.new.object
    ∙ ap object (c.in_ok-put_notes.ensures
    ∙ ap (with_notes notes) (c.in_ok-put_values.ensures ∙ rw (made.2, empty) refl)) in
    IfOk-then c.value_line.result
    (λ line exact. let exact_too = rw same at exact in
    record { rows = made.0; are = made.1; is = exact_too (summary-whole made.0 notes) })
    c.value_line.ensures
