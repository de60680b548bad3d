use Rattle.reports.proofs.Sinks.{then}
use Rattle.reports.proofs.printing.write_line.Goals as goal

pub returns : goal.returns
returns g c = then _ g.met.S.Sink.takes_both _ _ _ _ _ _ c.in_ok-write_words.ensures c.put.ensures
