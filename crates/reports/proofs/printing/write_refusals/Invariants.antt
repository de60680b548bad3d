use Rattle.std.proofs.Common.{map, take}
use Rattle.common.specs.Lines.{printed_lines}
use Rattle.reports.specs.ReportText.{report_line_text}
use Rattle.reports.specs.declared.report_line.ReportLine.TheVariants as line
use Rattle.reports.proofs.printing.write_refusals.Given as goal

abbrev pub invariant-loop-refusal : goal.invariant-loop-refusal
invariant-loop-refusal g l =
    g.S.Sink.takes l.initial.sink
    (printed_lines report_line_text (map (λ refusal. line.Refuse refusal) (take l.refusal-index l.refusals))) l.sink
