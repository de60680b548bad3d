use Rattle.std.proofs.Common.{◌≡◌, append_assoc, string_bytes}
use Rattle.std.proofs.lemmas.Result.{IfOk-weaker}
use Rattle.device_texts.specs.ReplyText.{reply_text}
use Rattle.device_texts.proofs.replies.reply_text.Goals as goal

-- The parts are those of the reply's text.
pub returns-in-Booted : goal.returns-in-Booted
returns-in-Booted c =
    let decision = c.decision_text-decision.ensures in
    IfOk-weaker c.format.result _
    (λ text. string_bytes text ≡ reply_text c.args.number c.args.reply.now)
    (λ _ written. rw c.in-Booted.is (simp append_assoc (simp decision at written)))
    c.format.ensures.ok

pub returns-in-TrialAgain : goal.returns-in-TrialAgain
returns-in-TrialAgain c =
    IfOk-weaker c.format-in-TrialAgain.result _
    (λ text. string_bytes text ≡ reply_text c.args.number c.args.reply.now)
    (λ text written. rw c.in-TrialAgain.is (simp append_assoc written)) c.format-in-TrialAgain.ensures.ok
