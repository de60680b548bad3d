use Rattle.std.proofs.Common.{◌≡◌, ◌∙◌, append_assoc, append-nil, string_bytes}
use Rattle.std.proofs.lemmas.Result.{IfOk-weaker}
use Rattle.inspecting.specs.PlanJson.{result_text}
use Rattle.inspecting.proofs.fleet.result_lines.result_text.Goals as goal

-- The parts of the text follow one another.
pub returns : goal.returns
returns c =
    IfOk-weaker c.format.result _ (λ text. string_bytes text ≡ result_text c.args.name.now c.args.outcome.now)
    (λ text is. is ∙ simp (append_assoc, append-nil)) c.format.ensures.ok
