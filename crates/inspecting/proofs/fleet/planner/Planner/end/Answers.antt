use Rattle.std.proofs.Common.{[], ◌++◌, subst}
use Rattle.std.proofs.lemmas.List.{append-nil}
use Rattle.common.proofs.Results.{OnOk-both}
use Rattle.common.specs.Lines.{lines_of}
use Rattle.inspecting.proofs.PlanBreakLaws.{BreaksLines-more}
use Rattle.inspecting.proofs.PlanLaws.{EndsPlan-done}
use Rattle.inspecting.proofs.ResultLaws.{OnErr-any, OnErr-then}
use Rattle.inspecting.specs.Planning.{BreaksLines}
use Rattle.inspecting.proofs.fleet.planner.Planner.end.Goals as goal

-- The last device has its result.
pub returns-clause-ends : goal.returns-clause-ends
returns-clause-ends g c = OnOk-both c.end_device.result (λ ends none telling bytes plan stands.
    let last = c.in_ok-end_last_line.ensures.lines telling bytes plan stands in
    EndsPlan-done telling bytes plan last.more last.written none (ends telling (lines_of bytes) (plan ++ last.more) last.has))
    c.end_device.ensures.lines c.end_device.ensures.none

-- The last line has an error.
pub returns-in_err-end_last_line-clause-begun : goal.returns-in_err-end_last_line-clause-begun
returns-in_err-end_last_line-clause-begun g c = OnErr-any _ c.in_err-end_last_line.ensures.begun

-- The last device is written in part.
pub returns-clause-begun : goal.returns-clause-begun
returns-clause-begun g c = OnErr-then c.end_device.result (λ breaks telling bytes plan stands.
    let entries = c.args.requests.now.entries in
    let last = c.in_ok-end_last_line.ensures.lines telling bytes plan stands in
    let lines = lines_of bytes in
    BreaksLines-more entries telling lines plan last.more _ _ _ last.written
    (subst (λ all. BreaksLines entries telling all (plan ++ last.more) (g.W.Write.contents c.end_last_line.new.out) (g.W.Write.contents c.end_device.new.out)) (append-nil lines)
    (breaks telling lines [] (plan ++ last.more) tt last.has))) c.end_device.ensures.begun
