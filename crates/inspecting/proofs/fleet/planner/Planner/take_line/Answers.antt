use Rattle.std.proofs.Common.{[], ◌∷◌, ◌++◌, refl, subst, sym}
use Rattle.std.proofs.lemmas.List.{append-nil}
use Rattle.inspecting.proofs.FleetReadingLaws.{told-none}
use Rattle.inspecting.proofs.PlanBreakLaws.{BreaksLines-none, IsPlanOfFirst-has}
use Rattle.inspecting.proofs.ResultLaws.{OnErr-any, OnErr-then, OnOk-then}
use Rattle.inspecting.specs.Planning.{HasRead}
use Rattle.inspecting.proofs.fleet.planner.Planner.take_line.Goals as goal

-- The line is one of a table.
pub returns-else-begins_device-clause-lines : goal.returns-else-begins_device-clause-lines
returns-else-begins_device-clause-lines g c = OnOk-then c.add_line.result (λ add telling line lines plan kept was.
    record {
      more = [];
      has = subst (λ all. HasRead c.args.requests.now.entries telling c.add_line.new.self (lines ++ line ∷ []) all) (sym (append-nil plan))
          (add _ telling line lines plan kept (c.if-begins_device.ensures.none refl line kept) was);
      written = told-none telling (g.W.Write.contents c.args.out.now);
    }) c.add_line.ensures.lines

-- The device before this line was written in part, or there was no memory for the next one.
pub returns-then-begins_device-clause-begun : goal.returns-then-begins_device-clause-begun
returns-then-begins_device-clause-begun g c =
    OnErr-then c.next_device.result (λ breaks telling line lines rest plan kept begun was.
    breaks telling lines (line ∷ rest) plan (c.if-begins_device.ensures.device refl line kept) was)
    c.next_device.ensures.begun

-- The line isn't added, and nothing is written.
pub returns-else-begins_device-clause-begun : goal.returns-else-begins_device-clause-begun
returns-else-begins_device-clause-begun g c = OnErr-any c.add_line.result (λ telling line lines rest plan kept begun was.
    let entries = c.args.requests.now.entries in
    BreaksLines-none entries telling (lines ++ line ∷ rest) plan _
    (IsPlanOfFirst-has entries telling c.args.self.now lines (line ∷ rest) plan begun was))
