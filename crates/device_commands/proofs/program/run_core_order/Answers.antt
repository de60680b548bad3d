use Rattle.std.proofs.Common.{refl}
use Rattle.device_commands.proofs.program.run_core_order.Goals as goal
use Rattle.device_commands.proofs.KeptLaws.{AnswersCore-kept}
use Rattle.device_texts.specs.declared.form.Form.TheVariants.{Text}
use Rattle.device_commands.proofs.WordsLaws.{never_usage, only_cut}

-- The status is 0 only after `Done`, and the answer was written before the flush.
pub returns-clause-done : goal.returns-clause-done
returns-clause-done g c = λ zero.
    let done = c.finish.ensures.status zero in
    let answered = rw done at c.run_device_order-outcome.ensures.answers in
    AnswersCore-kept Text c.args.order.now (g.H.Host.input c.args.host.now) (g.H.Host.file c.args.host.now)
    (g.H.Host.file c.run_device_order-outcome.new.host)
    (g.O.Write.contents c.args.out.now) (g.O.Write.contents c.run_device_order-outcome.new.out) (g.O.Write.contents c.finish.new.out)
    answered c.finish.ensures.kept

-- The status is 0 only after `Done`, and the flush uses no flash.
pub returns-clause-used : goal.returns-clause-used
returns-clause-used g c = λ zero.
    let used = rw (c.finish.ensures.status zero) at c.run_device_order-outcome.ensures.used in used refl

-- The status is 3 only after `Cut`.
pub returns-clause-cut : goal.returns-clause-cut
returns-clause-cut g c = λ three.
    let is_cut = only_cut c.run_device_order-outcome.result c.finish.result c.finish.ensures.ends three in
    record {
      written = g.O.Write.contents c.run_device_order-outcome.new.out;
      answered = rw is_cut at c.run_device_order-outcome.ensures.answers;
      kept = c.finish.ensures.kept;
    }

-- No command ends as a usage fault does.
pub returns-clause-other : goal.returns-clause-other
returns-clause-other g c = never_usage c.run_device_order-outcome.result c.finish.result c.finish.ensures.ends
