use Rattle.std.proofs.Common.{◌≡◌, ◌∙◌, ap, string_bytes}
use Rattle.std.proofs.lemmas.Result.{IfOk-weaker}
use Rattle.serde_json.proofs.Views.{view-Object}
use Rattle.serde_json.specs.Data.{object}
use Rattle.serde_json.specs.View.{view}
use Rattle.serde_json.specs.declared.value.Value.{Object}
use Rattle.device_texts.specs.Json.{with_notes}
use Rattle.device_texts.specs.Notes.{sentences}
use Rattle.device_texts.specs.declared.form.Form.TheVariants as form
use Rattle.sweep.specs.Swept.{members_of, written}
use Rattle.sweep.proofs.SweptLaws.{noted-whole}
use Rattle.sweep.proofs.swept.Swept.line.Goals as goal

-- The object has the members and the notes, and no number that isn't whole.
pub returns : goal.returns
returns c =
    let swept = c.args.self.now in
    let notes = sentences c.args.notes.now in
    let same : view (Object c.put_notes.new.object) ≡ object (with_notes notes (members_of swept)) =
    view-Object c.put_notes.new.object
    ∙ ap object (c.in_ok-put_notes.ensures ∙ ap (with_notes notes) c.in_ok-put_members.ensures) in
    IfOk-weaker c.value_line.result _ (λ line. string_bytes line ≡ written form.Json notes swept)
    (λ line exact. let exact_too = rw same at exact in exact_too (noted-whole notes swept)) c.value_line.ensures
