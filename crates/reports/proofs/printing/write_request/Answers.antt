use Rattle.reports.proofs.Sinks.{then}
use Rattle.reports.proofs.printing.write_request.Goals as goal

pub returns-in_ok-write_line-in-Entry : goal.returns-in_ok-write_line-in-Entry
returns-in_ok-write_line-in-Entry g c =
    rw c.in-Entry.is
    (then _ g.met.S.Sink.takes_both _ _ _ _ _ _ c.in_ok-write_line-in-Entry.ensures c.write_needs.ensures)
