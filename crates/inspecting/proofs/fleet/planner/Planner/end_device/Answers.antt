use Rattle.std.proofs.Common.{[], ◌∷◌, ◌++◌, ◌∙◌, List, ℕ, refl, rules, sym, subst}
use Rattle.common.proofs.Lists.{AllByRecursion-append}
use Rattle.inspecting.proofs.PlanBreakLaws.{BreaksLines-one, IsPlanOfFirst-ended}
use Rattle.inspecting.proofs.PlanLaws.{has_bad-more, planned_lines-more}
use Rattle.inspecting.proofs.ResultLaws.{OnErr-any}
use Rattle.inspecting.specs.Fleet.{BeginsNext, IsDevice}
use Rattle.inspecting.specs.Plan.{IsPlanned, Planned}
use Rattle.inspecting.specs.Planning.{AreLinesOf, BreaksLines, HasRead}
use Rattle.inspecting.specs.declared.fleet.telling.Telling.{Telling}
use Rattle.inspecting.proofs.fleet.planner.Planner.end_device.Goals as goal
use Rattle.inspecting.proofs.fleet.planner.Planner.end_device.Goals.{then-self, else-self}

-- The device has its result, which is written or summarized.
pub returns-clause-lines : goal.returns-clause-lines
returns-clause-lines g c telling lines plan was =
    let are = subst (AreLinesOf lines plan) (sym c.in-Some.ensures.value) was.lines_are in
    let (notes, tells) = c.in_ok-tell.ensures.tells in
    let planned : Planned = record { device = are.0; outcome = c.outcome_of-outcome.result; notes = notes } in
    let told = tells planned are.2 refl refl telling plan was.told in
    record {
      more = planned ∷ [];
      has = record {
        lines_are = rw c.in-Some.ensures.after (are.1 ∙ sym (planned_lines-more plan planned));
        devices = AllByRecursion-append (λ (p : Planned). IsDevice p.device) plan (planned ∷ []) was.devices (are.2.is, tt);
        each = AllByRecursion-append (IsPlanned c.args.requests.now.entries) plan (planned ∷ []) was.each (c.outcome_of-outcome.ensures _ are.2.table, tt);
        bad = rw (has_bad-more plan planned, ← was.bad) (elim c.if-self.branch [
          | then-self w ↦ search rules
          | else-self w ↦ search rules
        ]);
        told = told.0;
      };
      written = told.1;
    }

-- The device is written in part.
pub returns-in_err-tell-clause-begun : goal.returns-in_err-tell-clause-begun
returns-in_err-tell-clause-begun g c =
    let entries = c.args.requests.now.entries in
    let before = g.W.Write.contents c.args.out.now in
    let after = g.W.Write.contents c.tell.new.out in
    let breaks : (telling : Telling) (lines rest : List (List ℕ)) (plan : List Planned) → BeginsNext rest
    → HasRead entries telling c.args.self.now lines plan → BreaksLines entries telling (lines ++ rest) plan before after =
    λ telling lines rest plan next was.
    let are = subst (AreLinesOf lines plan) (sym c.in-Some.ensures.value) was.lines_are in
    let (notes, part) = c.in_err-tell.ensures.begun in
    let planned : Planned = record { device = are.0; outcome = c.outcome_of-outcome.result; notes = notes } in
    BreaksLines-one entries telling (lines ++ rest) plan planned before after
    (IsPlanOfFirst-ended entries (plan ++ planned ∷ []) lines rest
    (AllByRecursion-append (λ (p : Planned). IsDevice p.device) plan (planned ∷ []) was.devices (are.2.is, tt))
    (AllByRecursion-append (IsPlanned entries) plan (planned ∷ []) was.each (c.outcome_of-outcome.ensures _ are.2.table, tt))
    (are.1 ∙ sym (planned_lines-more plan planned)) next)
    (part planned are.2 refl refl telling plan was.told) in
    OnErr-any _ breaks
