use Rattle.std.proofs.Common.{◌≡◌, string_bytes}
use Rattle.std.proofs.lemmas.Result.{IfOk-weaker}
use Rattle.device_texts.specs.ReplyJson.{reply_line}
use Rattle.device_texts.specs.declared.form.Form.TheVariants.{Json}
use Rattle.device_texts.proofs.JsonWholeLaws.{reply-whole}
use Rattle.device_texts.proofs.json.reply.reply_object.Goals as goal

-- The object of a reply has no number that isn't whole.
pub returns : goal.returns
returns c =
    IfOk-weaker c.event_line.result _ (λ line. string_bytes line ≡ reply_line Json c.args.number c.args.reply.now)
    (λ line exact.
    let exact_too = rw c.in_ok-put_reply.ensures at exact in exact_too (reply-whole c.args.reply.now).none)
    c.event_line.ensures
