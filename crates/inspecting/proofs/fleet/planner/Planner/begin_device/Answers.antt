use Rattle.std.proofs.Common.{◌∷◌, [], ◌++◌, ap, ◌∙◌, subst}
use Rattle.inspecting.proofs.DeviceLaws.{IsReadSoFar-begun, begins-whole, begun}
use Rattle.inspecting.specs.Planning.{AreLinesOf, planned_lines}
use Rattle.inspecting.proofs.fleet.planner.Planner.begin_device.Goals as goal

-- The lines are those of the devices before, and the first one of this device.
pub returns-clause-lines : goal.returns-clause-lines
returns-clause-lines c entries telling line name lines plan kept begins none was =
    let whole = begins-whole line name c.args.self.now.line kept begins in
    let are = subst (AreLinesOf lines plan) none was.lines_are in
    record {
      lines_are = (
        begun name,
        ap (λ ls. ls ++ line ∷ []) are ∙ ap (λ l. planned_lines plan ++ l ∷ []) begins.spelled,
        IsReadSoFar-begun name line _ begins (c.in_ok-begin.ensures.first ∙ ap (λ l. l ++ 10 ∷ []) (c.deref.ensures.value ∙ whole)) c.in_ok-begin.ensures.table,
      );
      devices = was.devices;
      each = was.each;
      bad = was.bad;
      told = was.told;
    }
