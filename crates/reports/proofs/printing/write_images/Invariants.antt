use Rattle.std.proofs.Common.{take}
use Rattle.common.specs.Lines.{printed_lines}
use Rattle.reports.specs.TableText.{table_line_text, table_lines}
use Rattle.reports.proofs.printing.write_images.Given as goal

abbrev pub invariant-loop-number : goal.invariant-loop-number
invariant-loop-number g l =
    g.S.Sink.takes l.initial.sink
    (printed_lines table_line_text (table_lines 0 (take l.number l.images))) l.sink
