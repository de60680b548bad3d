use Rattle.boot_cli.proofs.program.run_order.Goals as goal
use Rattle.boot_cli.proofs.ErrorLaws.{WritesOrder-ended}
use Rattle.boot_cli.proofs.OrderLaws.{cut_after, done_after, used_after}
use Rattle.device_commands.proofs.WordsLaws.{never_usage}

-- The status is 0 only after `Done`.
pub returns-clause-done : goal.returns-clause-done
returns-clause-done g c =
    done_after c.args.request.is_json c.args.request.order c.answer_request-outcome.result c.end-status.result _ _ _ _ _ _
    c.answer_request-outcome.ensures.answers c.end-status.ensures.status c.end-status.ensures.kept

-- The status is 3 only after `Cut`.
pub returns-clause-cut : goal.returns-clause-cut
returns-clause-cut g c =
    cut_after c.args.request.is_json c.args.request.order c.answer_request-outcome.result c.end-status.result _ _ _ _ _ _
    c.answer_request-outcome.ensures.answers c.end-status.ensures.ends c.end-status.ensures.kept

-- No command ends as a usage fault does.
pub returns-clause-other : goal.returns-clause-other
returns-clause-other g c = never_usage c.answer_request-outcome.result c.end-status.result c.end-status.ensures.ends

-- A run that ends with status 0 was done.
pub returns-clause-used : goal.returns-clause-used
returns-clause-used g c =
    used_after c.answer_request-outcome.result c.end-status.result _ c.answer_request-outcome.ensures.used c.end-status.ensures.status

-- The output keeps the answer, or what was written before the error.
pub returns-clause-output : goal.returns-clause-output
returns-clause-output g c =
    WritesOrder-ended c.args.request.is_json c.args.request.order c.answer_request-outcome.result _ _ _ _ _ _
    c.answer_request-outcome.ensures.answers c.answer_request-outcome.ensures.begun c.end-status.ensures.kept
