use Rattle.std.proofs.Common.{◌≡◌, ◌∙◌, rules, string_bytes, sym}
use Rattle.std.proofs.lemmas.Result.{IfOk-weaker}
use Rattle.serde_json.specs.Data.{no_members}
use Rattle.serde_json.specs.View.{members_view}
use Rattle.device_texts.specs.Json.{with_notes}
use Rattle.device_texts.specs.Notes.{sentences}
use Rattle.device_texts.specs.ReplyJson.{note_line}
use Rattle.device_texts.specs.declared.form.Form.TheVariants.{Json}
use Rattle.device_texts.proofs.JsonLaws.{nothing-whole}
use Rattle.device_texts.proofs.JsonWholeLaws.{notes-whole}
use Rattle.device_texts.proofs.ReplyLaws.{note_line-some}
use Rattle.device_texts.proofs.json.reply.event_notes.Goals as goal

-- The object has the notes, and no number that isn't whole.
pub returns : goal.returns
returns c =
    let notes = sentences c.args.notes.now in
    let same : members_view c.put_notes.new.object.entries ≡ with_notes notes no_members =
    c.in_ok-put_notes.ensures ∙ search rules in
    IfOk-weaker c.event_line.result _ (λ line. string_bytes line ≡ note_line Json c.args.number notes)
    (λ line exact.
    let exact_too = rw same at exact in
    exact_too (notes-whole notes no_members nothing-whole).none
    ∙ sym (note_line-some string_bytes c.args.number c.args.notes.now.sentences.items (sym c.if-is_empty.ensures)))
    c.event_line.ensures
