use Rattle.reports.proofs.Sinks.{then}
use Rattle.reports.proofs.needs.write_group.Goals as goal

pub returns : goal.returns
returns g c =
    let others = rw c.as_slice.ensures.value at c.write_alternatives.ensures in
    then _ g.met.S.Sink.takes_both _ _ _ _ _ _ c.in_ok-put.ensures others
