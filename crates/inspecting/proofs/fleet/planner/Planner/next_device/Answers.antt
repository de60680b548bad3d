use Rattle.std.proofs.Common.{◌++◌, subst, sym}
use Rattle.inspecting.proofs.PlanBreakLaws.{BreaksLines-more, BreaksLines-none, IsPlanOfFirst-ended}
use Rattle.inspecting.proofs.ResultLaws.{OnErr-any, OnOk-then}
use Rattle.inspecting.specs.Bounded.{Holds}
use Rattle.inspecting.specs.Planning.{AreLinesOf}
use Rattle.inspecting.proofs.fleet.planner.Planner.next_device.Goals as goal

-- The device before has its result, and this one is begun.
pub returns-clause-lines : goal.returns-clause-lines
returns-clause-lines g c = OnOk-then c.begin_device.result (λ begun telling line name lines plan kept begins was.
    let ended = c.in_ok-end_device.ensures.lines telling lines plan was in
    record {
      more = ended.more;
      has = begun _ telling line name lines (plan ++ ended.more) (subst (Holds line) (sym c.in_ok-end_device.ensures.line) kept) begins
          c.in_ok-end_device.ensures.none ended.has;
      written = ended.written;
    }) c.begin_device.ensures.lines

-- The device before was written in part.
pub returns-in_err-end_device-clause-begun : goal.returns-in_err-end_device-clause-begun
returns-in_err-end_device-clause-begun g c = OnErr-any _ c.in_err-end_device.ensures.begun

-- The device before was written, and there was no memory for this one.
pub returns-clause-begun : goal.returns-clause-begun
returns-clause-begun g c = OnErr-any c.begin_device.result (λ telling lines rest plan next was.
    let entries = c.args.requests.now.entries in
    let ended = c.in_ok-end_device.ensures.lines telling lines plan was in
    let all = plan ++ ended.more in
    BreaksLines-more entries telling (lines ++ rest) plan ended.more _ _ _ ended.written
    (BreaksLines-none entries telling (lines ++ rest) all _
    (IsPlanOfFirst-ended entries all lines rest ended.has.devices ended.has.each
    (subst (AreLinesOf lines all) c.in_ok-end_device.ensures.none ended.has.lines_are) next)))
