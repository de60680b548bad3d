use Rattle.std.proofs.Common.{rules}
use Rattle.std.proofs.lemmas.Result.{IfOk-weaker}
use Rattle.boot_cli.proofs.JsonLaws.{swept-answered}
use Rattle.boot_cli.specs.JsonEnd.{form_of}
use Rattle.boot_cli.proofs.answering.answer_request.Goals as goal

-- The result of the sweep was written in the form that was asked for.
pub returns-in-Sweep-clause-answers : goal.returns-in-Sweep-clause-answers
returns-in-Sweep-clause-answers g c =
    let device = c.of-order.result.device in
    let script = c.of-order.result.script in
    swept-answered (form_of c.args.request.now.is_json) c.args.request.now.order c.answer_sweep.result _ _ _ _ _
    (rw c.in-Sweep.is
    (IfOk-weaker c.answer_sweep.result _ _
    (λ answer answers. (
      device,
      script,
      (c.of-order.ensures.device, c.of-order.ensures.script),
      rw c.form_of-form.ensures at answers,
      search rules,
    )) c.answer_sweep.ensures.answers))
