use Rattle.std.proofs.Common.{◌≡◌, ◌++◌, [], ◌∙◌, ap, append_assoc, refl}
use Rattle.inspecting.proofs.FleetReadingLaws.{Advances-nil, Advances-trans}
use Rattle.inspecting.proofs.PlanBreakLaws.{BreaksBytes-after}
use Rattle.inspecting.proofs.ResultLaws.{OnErr-any}
use Rattle.inspecting.proofs.fleet.planner.Planner.read.Goals as goal

-- Nothing is read.
pub loop-rest-init : goal.loop-rest-init
loop-rest-init g c = ([], refl, Advances-nil c.args.requests.now.entries c.args.self.now (g.W.Write.contents c.args.out.now))

-- One more line is read, or the rest.
pub loop-rest-preserved : goal.loop-rest-preserved
loop-rest-preserved g c =
    let was = c.loop-rest.invariant in
    let more = c.in_ok-rest.ensures.some in
    let there : was.0 ++ c.in-Some.text.now ≡ c.args.bytes.now = rw c.in-Some.is at was.1 in (
      was.0 ++ more.some,
      append_assoc was.0 more.some _ ∙ ap (λ t. was.0 ++ t) more.split ∙ there,
      Advances-trans c.args.requests.now.entries c.args.self.now c.loop-rest.self c.read_line.new.self was.0 more.some
          (g.W.Write.contents c.args.out.now) (g.W.Write.contents c.loop-rest.out) (g.W.Write.contents c.read_line.new.out) was.2 more.advances,
    )

-- The next line has an error.
pub returns-in_err-rest-clause-begun : goal.returns-in_err-rest-clause-begun
returns-in_err-rest-clause-begun g c =
    let was = c.loop-rest.invariant in
    let there : was.0 ++ c.in-Some.text.now ≡ c.args.bytes.now = rw c.in-Some.is at was.1 in
    OnErr-any _ (BreaksBytes-after c.args.requests.now.entries c.args.self.now c.loop-rest.self was.0 c.in-Some.text.now c.args.bytes.now
    _ _ _ there was.2 c.in_err-rest.ensures.begun)
