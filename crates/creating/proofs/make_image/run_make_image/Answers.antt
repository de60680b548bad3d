use Rattle.std.proofs.lemmas.Result.{IfOk-weaker}
use Rattle.host.proofs.InputLaws.{KeepsFiles-twice, KeepsSource-apart, KeepsSource-kept}
use Rattle.creating.proofs.NewFileLaws.{Replaces-before}
use Rattle.creating.proofs.NewImageLaws.{AnswersMade-same}
use Rattle.creating.proofs.make_image.run_make_image.Goals as goal

-- The body was read, and the answer is the one for its image.
pub returns-clause-answers : goal.returns-clause-answers
returns-clause-answers g c =
    IfOk-weaker c.make.result _ _
    (λ answer made. (
      c.in_ok-body.body.items,
      c.in_ok-body.ensures.bytes,
      AnswersMade-same answer _ _ _ _ _ _ c.deref-2.ensures.value made,
    ))
    c.make.ensures.made

-- The file could be replaced when it was, and it held the same before.
pub returns-clause-replaces : goal.returns-clause-replaces
returns-clause-replaces g c =
    IfOk-weaker c.make.result _ _
    (λ answer may. Replaces-before answer c.args.image _ _
    (KeepsFiles-twice _ _ _ c.in_ok-body.ensures.files c.hold_output-held.ensures.files) may)
    c.make.ensures.replaces

-- The image was refused, or its file could not be replaced.
pub returns-clause-kept : goal.returns-clause-kept
returns-clause-kept g c = λ ends.
    KeepsFiles-twice _ _ _ (KeepsFiles-twice _ _ _ c.in_ok-body.ensures.files c.hold_output-held.ensures.files)
    (c.make.ensures.kept ends)

-- The body is kept: nothing was written yet, or a file that isn't that of the body.
pub returns-in_err-body-clause-input : goal.returns-in_err-body-clause-input
returns-in_err-body-clause-input g c = KeepsSource-kept c.args.body _ _ c.in_err-body.ensures.files

pub returns-in_err-refuse_input-clause-input : goal.returns-in_err-refuse_input-clause-input
returns-in_err-refuse_input-clause-input g c = KeepsSource-kept c.args.body _ _
    (KeepsFiles-twice _ _ _ c.in_ok-body.ensures.files c.hold_output-held.ensures.files)

pub returns-clause-input : goal.returns-clause-input
returns-clause-input g c = KeepsSource-apart c.args.body c.args.image.name.now (g.H.Host.apart c.hold_output-held.new.self) _ _ _
    (KeepsFiles-twice _ _ _ c.in_ok-body.ensures.files c.hold_output-held.ensures.files)
    c.in_ok-refuse_input.ensures c.make.ensures.others
