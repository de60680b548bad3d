use Rattle.std.proofs.Common.{◌≡◌, append_assoc, string_bytes}
use Rattle.std.proofs.lemmas.Result.{IfOk-weaker}
use Rattle.device_texts.specs.AnswerText.{refused_text}
use Rattle.device_texts.proofs.refusals.refused_text.Goals as goal

-- The parts are those of the text.
pub returns : goal.returns
returns c =
    IfOk-weaker c.format.result _
    (λ text. string_bytes text ≡ refused_text c.args.code c.args.name.now)
    (λ text written. simp append_assoc written) c.format.ensures.ok
