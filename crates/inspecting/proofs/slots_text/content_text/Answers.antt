use Rattle.std.proofs.Common.{◌≡◌, append_assoc, string_bytes}
use Rattle.std.proofs.lemmas.Result.{IfOk-weaker}
use Rattle.inspecting.specs.SlotsText.{content_text}
use Rattle.inspecting.proofs.slots_text.content_text.Goals as goal

-- The parts are those of the text.
pub returns-in-Damaged : goal.returns-in-Damaged
returns-in-Damaged c =
    let code = c.code-code.ensures in
    let name = c.name-name.ensures in
    IfOk-weaker c.format-in-Damaged.result _
    (λ text. string_bytes text ≡ content_text c.args.content.now)
    (λ _ written. rw c.in-Damaged.is (simp append_assoc (simp (code, name) at written)))
    c.format-in-Damaged.ensures.ok
