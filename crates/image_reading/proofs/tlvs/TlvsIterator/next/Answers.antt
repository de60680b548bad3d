use Rattle.std.proofs.Common.{length, sym, ap, rules}
use Rattle.image_reading.specs.Tlv.{tlv_view}
use Rattle.image_reading.proofs.AreaLaws.{entries_of-first, entries_of-none, rest_of-first, rest_of-none}
use Rattle.image_reading.proofs.tlvs.TlvsIterator.next.Goals as goal

pub returns-in_err-tlv-clause-steps : goal.returns-in_err-tlv-clause-steps
returns-in_err-tlv-clause-steps c =
    let none = entries_of-none c.args.self.now.rest.now (sym c.in_err-tlv.ensures) in
    rw c.from_residual.ensures (none, none)

pub returns-clause-steps : goal.returns-clause-steps
returns-clause-steps c = entries_of-first c.args.self.now.rest.now (tlv_view c.in_ok-tlv.tlv) c.in_ok-tlv.rest.now
    (sym c.in_ok-tlv.ensures)

pub returns-clause-goes : goal.returns-clause-goes
returns-clause-goes c =
    let step =
    entries_of-first c.args.self.now.rest.now (tlv_view c.in_ok-tlv.tlv) c.in_ok-tlv.rest.now
    (sym c.in_ok-tlv.ensures) in
    let fewer = ap length step in
    search rules

pub returns-in_err-tlv-clause-ended : goal.returns-in_err-tlv-clause-ended
returns-in_err-tlv-clause-ended c = rw c.from_residual.ensures
    (sym (rest_of-none c.args.self.now.rest.now (sym c.in_err-tlv.ensures)))

pub returns-clause-rest : goal.returns-clause-rest
returns-clause-rest c = sym
    (rest_of-first c.args.self.now.rest.now (tlv_view c.in_ok-tlv.tlv) c.in_ok-tlv.rest.now (sym c.in_ok-tlv.ensures))
