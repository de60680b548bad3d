use Rattle.std.proofs.Common.{◌≡◌, ◌∙◌, ap, codes, false, string_bytes}
use Rattle.std.proofs.lemmas.Result.{IfOk-weaker}
use Rattle.serde_json.proofs.Views.{view-Object}
use Rattle.serde_json.specs.Data.{object}
use Rattle.serde_json.specs.View.{members_view, view}
use Rattle.serde_json.specs.Written.{members_have_float}
use Rattle.serde_json.specs.declared.value.Value.{Object}
use Rattle.device_texts.specs.Json.{json_line}
use Rattle.device_texts.specs.ReplyJson.{event_json}
use Rattle.device_texts.proofs.JsonWholeLaws.{number-whole}
use Rattle.device_texts.proofs.json.reply.event_line.Goals as goal

-- The object has the number of the event, and no number that isn't whole.
pub returns : goal.returns
returns c =
    let members = members_view c.args.object.entries in
    let same : view (Object c.put_number.new.object) ≡ event_json c.args.number members =
    view-Object c.put_number.new.object ∙ ap object c.in_ok-put_number.ensures in
    IfOk-weaker c.value_line.result _
    (λ line. members_have_float members ≡ false → string_bytes line ≡ json_line (event_json c.args.number members))
    (λ line exact whole.
    let exact_too = rw same at exact in
    exact_too (number-whole (codes "event") c.args.number members (record { none = whole })).none)
    c.value_line.ensures
