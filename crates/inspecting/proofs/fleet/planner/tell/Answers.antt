use Rattle.std.proofs.Common.{[]}
use Rattle.inspecting.proofs.PlanBreakLaws.{TellsPart-counted, TellsPart-written}
use Rattle.inspecting.proofs.PlanLaws.{Tells-counted, Tells-written}
use Rattle.inspecting.proofs.ResultLaws.{OnErr-any, OnErr-then, OnOk-then}
use Rattle.inspecting.proofs.fleet.planner.tell.Goals as goal

-- The device is written.
pub returns-in-Written-clause-tells : goal.returns-in-Written-clause-tells
returns-in-Written-clause-tells g c = OnOk-then c.write_result.result (λ written. (
  written.0,
  λ planned was is noted.
      rw c.in-Written.is (Tells-written c.in-Written.form planned _ _
      (rw (noted, ← is, ← c.name.ensures planned.device was) written.1)),
)) c.write_result.ensures.told

-- The device is counted.
pub returns-in-Counted-clause-tells : goal.returns-in-Counted-clause-tells
returns-in-Counted-clause-tells g c = OnOk-then c.summarize.result (λ counts. (
  [],
  λ planned was is noted.
      rw c.in-Counted.is (Tells-counted c.in-Counted.field-0 planned c.in-Counted.summary c.summarize.new.summary _
      (λ plan so_far. counts planned plan was is so_far)),
)) c.summarize.ensures

-- The device is written in part.
pub returns-in-Written-clause-begun : goal.returns-in-Written-clause-begun
returns-in-Written-clause-begun g c = OnErr-then c.write_result.result (λ begun. (
  begun.0,
  λ planned was is noted.
      rw c.in-Written.is (TellsPart-written c.in-Written.form planned _ _
      (rw (noted, ← is, ← c.name.ensures planned.device was) begun.1)),
)) c.write_result.ensures.begun

-- The device isn't counted.
pub returns-in-Counted-clause-begun : goal.returns-in-Counted-clause-begun
returns-in-Counted-clause-begun g c = OnErr-any c.summarize.result (
  [],
  λ planned was is noted. rw c.in-Counted.is (TellsPart-counted c.in-Counted.field-0 planned c.in-Counted.summary _),
)
