use Rattle.inspecting.proofs.PlanBreakLaws.{BreaksSource-none, BreaksSource-part}
use Rattle.inspecting.proofs.ResultLaws.{OnErr-any}
use Rattle.inspecting.proofs.fleet.program.plan_source.Goals as goal

-- The fleet can't be read.
pub returns-in_err-open_stream-clause-begun : goal.returns-in_err-open_stream-clause-begun
returns-in_err-open_stream-clause-begun g c = OnErr-any _
    (BreaksSource-none c.args.requests.now.entries c.args.telling c.args.fleet (g.H.Host.input c.args.host.now) (g.H.Host.file c.args.host.now)
    (g.O.Write.contents c.args.out.now))

-- A part of the plan was written, and flushed.
pub returns-in-Err-clause-begun : goal.returns-in-Err-clause-begun
returns-in-Err-clause-begun g c =
    BreaksSource-part c.args.requests.now.entries c.args.telling c.args.fleet (g.H.Host.input c.args.host.now) (g.H.Host.file c.args.host.now)
    _ _ _ _ c.in_ok-open_stream.ensures c.in-Err.ensures.begun c.refuse_after.ensures
