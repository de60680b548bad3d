use Rattle.std.proofs.Common.{map, take}
use Rattle.common.specs.Lines.{printed_lines}
use Rattle.reports.specs.TableText.{table_line_text}
use Rattle.reports.specs.declared.table_line.TableLine.TheVariants as line
use Rattle.reports.proofs.printing.write_needs.Given as goal

abbrev pub invariant-loop-dependency : goal.invariant-loop-dependency
invariant-loop-dependency g l =
    g.S.Sink.takes l.initial.sink
    (printed_lines table_line_text (map (λ dependency. line.Needs dependency)
    (take l.dependency-index l.dependency-items))) l.sink
