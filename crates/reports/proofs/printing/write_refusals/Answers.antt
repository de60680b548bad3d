use Rattle.reports.specs.ReportText.{report_line_text}
use Rattle.reports.specs.declared.report_line.ReportLine.TheVariants as line
use Rattle.reports.proofs.PrintedLines.{printed_more}
use Rattle.reports.proofs.Sinks.{respelled}
use Rattle.reports.proofs.printing.write_refusals.Goals as goal

pub loop-refusal-init : goal.loop-refusal-init
loop-refusal-init g c = g.met.S.Sink.takes_nothing _

pub loop-refusal-preserved : goal.loop-refusal-preserved
loop-refusal-preserved g c =
    respelled g.S.Sink.takes _ _ _ _
    (printed_more report_line_text (λ refusal. line.Refuse refusal) c.args.refusals.now
    c.loop-refusal.refusal-index c.refusal-item.result c.loop-refusal-test.true c.refusal-item.is)
    (g.met.S.Sink.takes_both _ _ _ _ _ c.loop-refusal.invariant c.in_ok-write_refusal.ensures)
