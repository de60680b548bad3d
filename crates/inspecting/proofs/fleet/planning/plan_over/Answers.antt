use Rattle.std.proofs.Common.{[], ◌<◌, rules, subst, sym, take}
use Rattle.std.proofs.KnownBytes.{Consumes-nil}
use Rattle.std.specs.Io.KnownBytes.{Consumes}
use Rattle.inspecting.proofs.FleetReadingLaws.{told-none}
use Rattle.inspecting.proofs.PlanBreakLaws.{PlansPart-ended, PlansPart-none, PlansPart-read, PlansPart-stopped}
use Rattle.inspecting.proofs.PlanEndLaws.{HasPlanned-kept, HasPlanned-more, Plans-ended}
use Rattle.inspecting.proofs.ResultLaws.{IfOk-then, OnErr-any, OnErr-then}
use Rattle.inspecting.proofs.fleet.planning.plan_over.Goals as goal
use Rattle.inspecting.proofs.fleet.planning.plan_over.Goals.{in-Ok-read_into+in_ok-read-in-Ok-read_into, in-Err}

-- Nothing is read.
pub loop-init : goal.loop-init
loop-init g c = record {
  some = subst (λ n. 0 < n) (sym c.in-Ok.ensures) (search rules);
  planned = record {
    bytes = [];
    read = Consumes-nil (g.R.Read.remaining c.args.input.now);
    plan = [];
    stands = c.new-planner.ensures c.args.requests.now.entries;
    written = told-none c.args.telling (g.W.Write.contents c.args.out.now);
  };
}

-- The input is at its end.
pub returns-in-Ok-eq0-clause-plans : goal.returns-in-Ok-eq0-clause-plans
returns-in-Ok-eq0-clause-plans g c =
    let old = g.R.Read.remaining c.loop.input in
    let new = g.R.Read.remaining c.read_into.new.input in
    let buffer = c.read_into.new.buffer.items in
    let read = rw c.in-Ok-eq0.is at c.read_into.ensures.read in
    let zero = c.in-Ok-eq0.field-0-test in
    let some = subst (λ n. 0 < n) (sym c.read_into.ensures.size) c.loop.invariant.some in
    IfOk-then c.end_plan.result (λ answer ends. Plans-ended c.loop.invariant.planned
    (subst (λ n. Consumes old new (take n buffer)) zero read.0) (read.1 zero some) ends) c.end_plan.ensures.ends

-- A piece is read and planned, or a read was interrupted.
pub loop-preserved : goal.loop-preserved
loop-preserved g c = record {
  some = subst (λ n. 0 < n) (sym c.read_into.ensures.size) c.loop.invariant.some;
  planned = elim c.match-read_into.branch [
    | in-Ok-read_into+in_ok-read-in-Ok-read_into w ↦ rw (w.planner-is, w.out-is)
        (HasPlanned-more (take w.in-Ok-read_into.count c.read_into.new.buffer.items) c.loop.invariant.planned
        (rw w.in-Ok-read_into.is at c.read_into.ensures.read).0 (rw w.deref.ensures.value at w.in_ok-read-in-Ok-read_into.ensures.advances))
    | in-Err w ↦ rw (w.planner-is, w.out-is)
        (HasPlanned-kept c.loop.invariant.planned (rw w.in-Err.is at c.read_into.ensures.read))
  ];
}

-- There was no memory to read.
pub returns-in_default-clause-begun : goal.returns-in_default-clause-begun
returns-in_default-clause-begun g c = PlansPart-none c.args.requests.now.entries c.args.telling _ _

-- The input is at its end, and the plan can't be ended.
pub returns-in-Ok-eq0-clause-begun : goal.returns-in-Ok-eq0-clause-begun
returns-in-Ok-eq0-clause-begun g c =
    let old = g.R.Read.remaining c.loop.input in
    let new = g.R.Read.remaining c.read_into.new.input in
    let buffer = c.read_into.new.buffer.items in
    let read = rw c.in-Ok-eq0.is at c.read_into.ensures.read in
    let zero = c.in-Ok-eq0.field-0-test in
    let some = subst (λ n. 0 < n) (sym c.read_into.ensures.size) c.loop.invariant.some in
    OnErr-then c.end_plan.result (λ breaks.
    PlansPart-ended c.args.requests.now.entries c.args.telling c.loop.planner (g.R.Read.remaining c.args.input.now) old new _ _ _ c.loop.invariant.planned
    (subst (λ n. Consumes old new (take n buffer)) zero read.0) (read.1 zero some) breaks) c.end_plan.ensures.begun

-- A piece can't be planned.
pub returns-in_err-read-in-Ok-read_into-clause-begun : goal.returns-in_err-read-in-Ok-read_into-clause-begun
returns-in_err-read-in-Ok-read_into-clause-begun g c =
    let piece = take c.in-Ok-read_into.count c.read_into.new.buffer.items in
    OnErr-any _ (PlansPart-read c.args.requests.now.entries c.args.telling c.loop.planner _ _ _ _ _ _ piece c.loop.invariant.planned
    (rw c.in-Ok-read_into.is at c.read_into.ensures.read).0 (rw c.deref.ensures.value at c.in_err-read-in-Ok-read_into.ensures.begun))

-- A read failed.
pub returns-in-Err-2-clause-begun : goal.returns-in-Err-2-clause-begun
returns-in-Err-2-clause-begun g c = PlansPart-stopped c.args.requests.now.entries c.args.telling c.loop.planner _ _ _ _ c.loop.invariant.planned

-- Reads were interrupted too often.
pub returns-clause-begun : goal.returns-clause-begun
returns-clause-begun g c = PlansPart-stopped c.args.requests.now.entries c.args.telling c.loop.planner _ _ _ _ c.loop.invariant.planned
