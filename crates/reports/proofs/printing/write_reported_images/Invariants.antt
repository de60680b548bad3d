use Rattle.std.proofs.Common.{take}
use Rattle.common.specs.Lines.{printed_lines}
use Rattle.reports.specs.ReportText.{reported_lines, report_line_text}
use Rattle.reports.proofs.printing.write_reported_images.Given as goal

abbrev pub invariant-loop-index : goal.invariant-loop-index
invariant-loop-index g l =
    g.S.Sink.takes l.initial.sink
    (printed_lines report_line_text (reported_lines 0 (take l.index l.images))) l.sink
