use Rattle.reports.proofs.PrintedLines.{printed_image}
use Rattle.reports.proofs.Sinks.{spelled, then}
use Rattle.reports.proofs.printing.write_image.Goals as goal

pub returns : goal.returns
returns g c =
    let both = g.met.S.Sink.takes_both in
    spelled g.S.Sink.takes _ _ _ _ c.write_request.result (printed_image c.args.number c.args.image.now)
    (then _ both _ _ _ _ _ _ c.in_ok-write_line.ensures
    (then _ both _ _ _ _ _ _ c.in_ok-write_needs.ensures c.write_request.ensures))
