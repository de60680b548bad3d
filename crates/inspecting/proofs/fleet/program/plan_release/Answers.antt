use Rattle.std.proofs.Common.{inl, inr}
use Rattle.std.proofs.KnownBytes.{Keeps-refl}
use Rattle.host.proofs.InputLaws.{Gives-kept}
use Rattle.inspecting.proofs.ResultLaws.{OnErr-any, OnErr-then}
use Rattle.inspecting.proofs.fleet.program.plan_release.Goals as goal

-- The requests can't be read.
pub returns-in_err-requests-clause-begun : goal.returns-in_err-requests-clause-begun
returns-in_err-requests-clause-begun g c = OnErr-any _ (inl (Keeps-refl _))

-- A part of the plan was written.
pub returns-clause-begun : goal.returns-clause-begun
returns-clause-begun g c = OnErr-then c.plan_source.result (λ breaks. inr (
  c.in_ok-requests.requests.entries,
  c.in_ok-requests.ensures.release,
  record {
    bytes = breaks.bytes;
    given = Gives-kept c.args.fleet _ _ _ _ breaks.bytes c.in_ok-requests.ensures.input c.in_ok-requests.ensures.files breaks.given;
    writes = breaks.writes;
  },
)) c.plan_source.ensures.begun
