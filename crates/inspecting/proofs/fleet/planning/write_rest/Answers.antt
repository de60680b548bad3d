use Rattle.std.proofs.Common.{subst}
use Rattle.inspecting.proofs.PlanBreakLaws.{BreaksRest-summary}
use Rattle.inspecting.proofs.PlanEndLaws.{WritesRest-none, WritesRest-summary}
use Rattle.inspecting.proofs.ResultLaws.{OnErr-then, OnOk-then}
use Rattle.inspecting.specs.Planning.{IsTold}
use Rattle.inspecting.proofs.fleet.planning.write_rest.Goals as goal

-- The summary is written.
pub returns-in-Counted-clause-rest : goal.returns-in-Counted-clause-rest
returns-in-Counted-clause-rest g c = OnOk-then c.write_rows.result (λ writes telling plan told.
    WritesRest-summary telling plan c.in-Counted.form c.in-Counted.summary _ _ writes (subst (λ t. IsTold telling t plan) c.in-Counted.is told))
    c.write_rows.ensures.told

-- There is none.
pub returns-in-Written-clause-rest : goal.returns-in-Written-clause-rest
returns-in-Written-clause-rest g c telling plan told =
    WritesRest-none telling plan _ _ (subst (λ t. IsTold telling t plan) c.in-Written.is told)

-- The summary is written in part.
pub returns-in-Counted-clause-begun : goal.returns-in-Counted-clause-begun
returns-in-Counted-clause-begun g c = OnErr-then c.write_rows.result (λ begun telling plan told.
    BreaksRest-summary telling plan c.in-Counted.form c.in-Counted.summary _ _ begun (subst (λ t. IsTold telling t plan) c.in-Counted.is told))
    c.write_rows.ensures.begun
