use Rattle.boot_cli.proofs.ErrorLaws.{OnErr-any}
use Rattle.boot_cli.proofs.answering.answer_texts.Goals as goal

-- The order ended with an error.
pub returns-in_err-answer-clause-begun : goal.returns-in_err-answer-clause-begun
returns-in_err-answer-clause-begun g c = OnErr-any _ c.in_err-answer.ensures.begun
