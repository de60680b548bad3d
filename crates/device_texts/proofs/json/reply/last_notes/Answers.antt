use Rattle.std.proofs.Common.{◌≡◌, ◌∙◌, ap, rules, string_bytes, sym}
use Rattle.std.proofs.lemmas.Result.{IfOk-weaker}
use Rattle.serde_json.proofs.Views.{view-Object}
use Rattle.serde_json.specs.Data.{no_members, object}
use Rattle.serde_json.specs.View.{view}
use Rattle.serde_json.specs.declared.value.Value.{Object}
use Rattle.device_texts.specs.Json.{with_notes}
use Rattle.device_texts.specs.Notes.{sentences}
use Rattle.device_texts.specs.ReplyJson.{last_notes}
use Rattle.device_texts.proofs.JsonLaws.{nothing-whole}
use Rattle.device_texts.proofs.JsonWholeLaws.{notes-whole}
use Rattle.device_texts.proofs.ReplyLaws.{last_notes-some}
use Rattle.device_texts.proofs.json.reply.last_notes.Goals as goal

-- The object has the notes, and no number that isn't whole.
pub returns : goal.returns
returns c =
    let notes = sentences c.args.notes.now in
    let same : view (Object c.put_notes.new.object) ≡ object (with_notes notes no_members) =
    view-Object c.put_notes.new.object ∙ ap object (c.in_ok-put_notes.ensures ∙ search rules) in
    IfOk-weaker c.value_line.result _ (λ line. string_bytes line ≡ last_notes notes)
    (λ line exact.
    let exact_too = rw same at exact in
    exact_too (notes-whole notes no_members nothing-whole).none
    ∙ sym (last_notes-some string_bytes c.args.notes.now.sentences.items (sym c.if-is_empty.ensures)))
    c.value_line.ensures
