use Rattle.std.proofs.Common.{◌≡◌, ◌∙◌, ap, rules, string_bytes}
use Rattle.std.proofs.lemmas.Result.{IfOk-weaker}
use Rattle.serde_json.proofs.Views.{view-Object}
use Rattle.serde_json.specs.Data.{no_members, object}
use Rattle.serde_json.specs.View.{view}
use Rattle.serde_json.specs.declared.value.Value.{Object}
use Rattle.device_texts.specs.Json.{map_json, with_refused}
use Rattle.device_texts.specs.ReplyJson.{map_refusal_line}
use Rattle.device_texts.specs.declared.form.Form.TheVariants.{Json}
use Rattle.device_texts.proofs.JsonWholeLaws.{layer-whole, refused-whole}
use Rattle.device_texts.proofs.JsonLaws.{nothing-whole}
use Rattle.device_texts.proofs.json.reply.refused_map.Goals as goal

-- The object of a refusal has no number that isn't whole.
pub returns : goal.returns
returns c =
    let same : view (Object c.put_refused.new.object) ≡ object (with_refused (map_json c.args.refused) no_members) =
    view-Object c.put_refused.new.object ∙ ap object (c.in_ok-put_refused.ensures ∙ search rules) in
    IfOk-weaker c.value_line.result _ (λ line. string_bytes line ≡ map_refusal_line Json c.args.refused)
    (λ line exact.
    let exact_too = rw same at exact in exact_too (refused-whole _ (layer-whole _ _ _ _ nothing-whole)).none)
    c.value_line.ensures
