use Rattle.std.proofs.Common.{[], ◌∷◌, ◌++◌, subst, sym}
use Rattle.common.specs.Ascii.{LacksByte}
use Rattle.inspecting.proofs.CutLaws.{cut-fewer, cut-lacks, cut-none, cut-some}
use Rattle.inspecting.proofs.FleetReadingLaws.{Advances-quiet, Advances-trans}
use Rattle.inspecting.proofs.PlanBreakLaws.{BreaksBytes-line, BreaksBytes-none}
use Rattle.inspecting.proofs.ResultLaws.{OnErr-any}
use Rattle.inspecting.proofs.fleet.planner.Planner.read_line.Goals as goal

-- The bytes have no line feed.
pub returns-in_default-clause-some : goal.returns-in_default-clause-some
returns-in_default-clause-some g c =
    let part = c.cut.result.0.now in
    let lacks = subst (LacksByte 10) (sym c.cut.ensures.before) (cut-lacks c.args.bytes.now) in
    record {
      some = part;
      split = cut-none c.args.bytes.now part c.cut.ensures.before (rw c.in_default.is at c.cut.ensures.after);
      fewer = tt;
      advances = Advances-quiet part (g.W.Write.contents c.args.out.now) (λ telling read plan stands. c.in_ok-read_part.ensures _ telling read plan lacks stands);
    }

-- A line ends among them.
pub returns-clause-some : goal.returns-clause-some
returns-clause-some g c =
    let part = c.cut.result.0.now in
    let lacks = subst (LacksByte 10) (sym c.cut.ensures.before) (cut-lacks c.args.bytes.now) in
    let split = cut-some c.args.bytes.now part c.in-Some.rest.now c.cut.ensures.before (rw c.in-Some.is at c.cut.ensures.after) in
    let known = g.W.Write.contents c.args.out.now in
    record {
      some = part ++ 10 ∷ [];
      split = split;
      fewer = cut-fewer c.args.bytes.now part c.in-Some.rest.now split;
      advances = Advances-trans c.args.requests.now.entries c.args.self.now c.read_part.new.self c.end_line.new.self part (10 ∷ []) known known (g.W.Write.contents c.end_line.new.out)
          (Advances-quiet part known (λ telling read plan stands. c.in_ok-read_part.ensures _ telling read plan lacks stands)) c.in_ok-end_line.ensures.feed;
    }

-- There was no memory for the line.
pub returns-in_err-read_part-clause-begun : goal.returns-in_err-read_part-clause-begun
returns-in_err-read_part-clause-begun g c = OnErr-any _
    (BreaksBytes-none c.args.requests.now.entries c.args.self.now c.args.bytes.now (g.W.Write.contents c.args.out.now))

-- The line has an error.
pub returns-in_err-end_line-clause-begun : goal.returns-in_err-end_line-clause-begun
returns-in_err-end_line-clause-begun g c =
    let part = c.cut.result.0.now in
    let lacks = subst (LacksByte 10) (sym c.cut.ensures.before) (cut-lacks c.args.bytes.now) in
    let split = cut-some c.args.bytes.now part c.in-Some.rest.now c.cut.ensures.before (rw c.in-Some.is at c.cut.ensures.after) in
    OnErr-any _ (BreaksBytes-line c.args.requests.now.entries c.args.self.now c.read_part.new.self part c.in-Some.rest.now c.args.bytes.now _ _ split
    (λ telling read plan stands. c.in_ok-read_part.ensures _ telling read plan lacks stands) c.in_err-end_line.ensures.begun)
