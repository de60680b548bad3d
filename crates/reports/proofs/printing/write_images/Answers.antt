use Rattle.std.proofs.Common.{arith}
use Rattle.reports.proofs.PrintedLines.{printed_images_more}
use Rattle.reports.proofs.Sinks.{respelled}
use Rattle.reports.proofs.printing.write_images.Goals as goal

pub loop-number-init : goal.loop-number-init
loop-number-init g c = g.met.S.Sink.takes_nothing _

pub loop-number-preserved : goal.loop-number-preserved
loop-number-preserved g c =
    respelled g.S.Sink.takes _ _ _ _ (printed_images_more _ _ _ (omega arith) c.index-images-number.is)
    (g.met.S.Sink.takes_both _ _ _ _ _ c.loop-number.invariant c.in_ok-write_image.ensures)
