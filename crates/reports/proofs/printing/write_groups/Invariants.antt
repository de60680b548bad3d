use Rattle.std.proofs.Common.{map, take}
use Rattle.common.specs.Lines.{printed_lines}
use Rattle.reports.specs.TableText.{table_line_text}
use Rattle.reports.specs.declared.table_line.TableLine.TheVariants as line
use Rattle.reports.proofs.printing.write_groups.Given as goal

abbrev pub invariant-loop-group : goal.invariant-loop-group
invariant-loop-group g l =
    g.S.Sink.takes l.initial.sink
    (printed_lines table_line_text (map (λ group. line.NeedsOne group) (take l.group-index l.groups))) l.sink
