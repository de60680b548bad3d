use Rattle.std.proofs.Common.{take}
use Rattle.upload.specs.Accepted.{AreThere}
use Rattle.layer_tests.proofs.intake.uploads.are_there.Given as goal

abbrev pub invariant-loop-component : goal.invariant-loop-component
invariant-loop-component l = AreThere l.map (take l.component-index l.components)
