use Rattle.std.proofs.Common.{take}
use Rattle.std.specs.Fmt.{IsPlainFormatter, HasWritten}
use Rattle.common.specs.Lines.{printed_lines}
use Rattle.reports.specs.DependencyText.{needs_one_text}
use Rattle.inspecting.proofs.image.write_groups.Given as goal

abbrev pub invariant-loop-group : goal.invariant-loop-group
invariant-loop-group g l =
    IsPlainFormatter l.initial.f → HasWritten g.W.Write.write_str_gives l.initial.f
    (printed_lines needs_one_text (take l.group-index l.groups)) l.f
