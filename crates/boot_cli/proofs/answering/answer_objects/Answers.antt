use Rattle.std.proofs.Common.{inl, inr}
use Rattle.boot_cli.proofs.ErrorLaws.{OnErr-any}
use Rattle.boot_cli.proofs.answering.answer_objects.Goals as goal

-- The run ended with an error.
pub returns-in_err-answer-clause-begun : goal.returns-in_err-answer-clause-begun
returns-in_err-answer-clause-begun g c = OnErr-any _ (inl c.in_err-answer.ensures.begun)

-- The run was answered, and the notes on its end were written in part.
pub returns-in_err-write_last_notes-clause-begun : goal.returns-in_err-write_last_notes-clause-begun
returns-in_err-write_last_notes-clause-begun g c =
    let (notes, begun) = c.in_err-write_last_notes.ensures.begun in
    OnErr-any _ (inr (c.in_ok-answer.answer, _, notes, c.in_ok-answer.ensures.answers, begun))
