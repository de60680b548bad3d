use Rattle.std.proofs.Common.{take}
use Rattle.std.specs.Fmt.{IsPlainFormatter, HasWritten}
use Rattle.common.specs.Lines.{printed_lines}
use Rattle.reports.specs.DependencyText.{needs_text}
use Rattle.inspecting.proofs.image.write_needs.Given as goal

abbrev pub invariant-loop-dependency : goal.invariant-loop-dependency
invariant-loop-dependency g l =
    IsPlainFormatter l.initial.f → HasWritten g.W.Write.write_str_gives l.initial.f
    (printed_lines needs_text (take l.dependency-index l.dependencies)) l.f
