use Rattle.std.proofs.Common.{take}
use Rattle.machine.specs.Accepted.{AllFit}
use Rattle.upload.proofs.judging.all_fit.Given as goal

abbrev pub invariant-loop-component : goal.invariant-loop-component
invariant-loop-component l = AllFit l.map (take l.component-index l.components)
