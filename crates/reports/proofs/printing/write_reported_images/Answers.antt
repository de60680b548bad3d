use Rattle.std.proofs.Common.{arith, refl}
use Rattle.reports.proofs.PrintedLines.{printed_reported_more}
use Rattle.reports.proofs.Sinks.{respelled}
use Rattle.reports.proofs.printing.write_reported_images.Goals as goal

pub loop-index-init : goal.loop-index-init
loop-index-init g c = g.met.S.Sink.takes_nothing _

pub loop-index-preserved : goal.loop-index-preserved
loop-index-preserved g c =
    respelled g.S.Sink.takes _ _ _ _ (printed_reported_more _ _ _ _ (omega arith) refl)
    (g.met.S.Sink.takes_both _ _ _ _ _ c.loop-index.invariant c.in_ok-write_reported_image.ensures)
