use Rattle.std.proofs.lemmas.Result.{IfOk-weaker}
use Rattle.boot_cli.proofs.answering.answer_merge.Goals as goal

-- The result of the runs was written, without notes.
pub returns-clause-answers : goal.returns-clause-answers
returns-clause-answers g c =
    IfOk-weaker c.write_swept.result _ _
    (λ answer told. (c.in_ok-swept.swept, record { notes = _; answered = told.0; taken = told.1 }))
    c.write_swept.ensures
