use Rattle.reports.proofs.Sinks.{then}
use Rattle.reports.proofs.sink.write_version.Goals as goal

pub returns : goal.returns
returns g c =
    let both = g.met.S.Sink.takes_both in
    let first = rw c.from.ensures at c.in_ok-write_number.ensures in
    let second = rw c.from-2.ensures at c.in_ok-write_number-2.ensures in
    let third = rw c.from-3.ensures at c.in_ok-write_number-3.ensures in
    then _ both _ _ _ _ _ _ first
    (then _ both _ _ _ _ _ _ second
    (then _ both _ _ _ _ _ _ third c.write_number-4.ensures))
