use Rattle.std.proofs.Common.{◌<◌, length}
use Rattle.inspecting.specs.PlanEnd.{HasPlanned}
use Rattle.inspecting.proofs.fleet.planning.plan_over.Given as goal

-- The bytes that were read are planned, but for the device whose table isn't complete.
abbrev pub invariant-loop : goal.invariant-loop
invariant-loop g l = record {
  some : 0 < length l.piece.items;
  planned : HasPlanned l.requests.entries l.fn.telling l.planner (g.R.Read.remaining l.fn.input) (g.R.Read.remaining l.input) (g.W.Write.contents l.fn.out) (g.W.Write.contents l.out);
}
