use Rattle.std.proofs.Common.{List, ℕ}
use Rattle.inspecting.proofs.PlanBreakLaws.{BreaksEnd-lines, BreaksEnd-rest}
use Rattle.inspecting.proofs.PlanEndLaws.{EndsWith-done}
use Rattle.inspecting.proofs.ResultLaws.{OnErr-any}
use Rattle.inspecting.specs.Plan.{Planned}
use Rattle.inspecting.specs.PlanEnd.{BreaksEnd}
use Rattle.inspecting.specs.Planning.{Stands}
use Rattle.inspecting.specs.declared.fleet.telling.Telling.{Telling}
use Rattle.inspecting.proofs.fleet.planning.end_plan.Goals as goal

-- All devices have their results.
pub returns-clause-ends : goal.returns-clause-ends
returns-clause-ends g c telling bytes plan stands =
    EndsWith-done telling bytes plan (c.in_ok-end.ensures.ends telling bytes plan stands) (c.in_ok-write_rest.ensures.rest telling) c.answer_for.ensures

-- The last device is written in part.
pub returns-in_err-end-clause-begun : goal.returns-in_err-end-clause-begun
returns-in_err-end-clause-begun g c =
    let entries = c.args.requests.now.entries in
    let before = g.W.Write.contents c.args.out.now in
    let after = g.W.Write.contents c.end.new.out in
    let breaks : (telling : Telling) (bytes : List ℕ) (plan : List Planned) → Stands entries telling c.args.planner bytes plan
    → BreaksEnd entries telling bytes plan before after =
    λ telling bytes plan stands. BreaksEnd-lines entries telling bytes plan before after
    (c.in_err-end.ensures.begun telling bytes plan stands) in
    OnErr-any _ breaks

-- The summary is written in part.
pub returns-in_err-write_rest-clause-begun : goal.returns-in_err-write_rest-clause-begun
returns-in_err-write_rest-clause-begun g c =
    let entries = c.args.requests.now.entries in
    let before = g.W.Write.contents c.args.out.now in
    let after = g.W.Write.contents c.write_rest.new.out in
    let breaks : (telling : Telling) (bytes : List ℕ) (plan : List Planned) → Stands entries telling c.args.planner bytes plan
    → BreaksEnd entries telling bytes plan before after =
    λ telling bytes plan stands. BreaksEnd-rest entries c.end.new.self telling bytes plan before (g.W.Write.contents c.end.new.out) after
    (c.in_ok-end.ensures.ends telling bytes plan stands) (c.in_err-write_rest.ensures.begun telling) in
    OnErr-any _ breaks
