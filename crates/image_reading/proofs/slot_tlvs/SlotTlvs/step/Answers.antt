use Rattle.std.proofs.Common.{◌≡◌, None, sym}
use Rattle.image_reading.specs.Reading.{first_entry}
use Rattle.image_reading.specs.SlotTlvs.{slot_tlv_view}
use Rattle.image_reading.specs.Span.{bytes_of}
use Rattle.image_reading.proofs.AreaLaws.{entries_of-none, read_first, rest_of-none}
use Rattle.image_reading.proofs.slot_tlvs.SlotTlvs.step.Goals as goal

pub returns-clause-steps : goal.returns-clause-steps
returns-clause-steps g c =
    let chip = g.M.Medium.chip c.args.medium.now in
    (read_first (bytes_of chip c.args.self.now.rest) (slot_tlv_view chip c.in_ok-tlv.tlv)
    (bytes_of chip c.in_ok-tlv.rest) c.in_ok-tlv.ensures.first).0

pub returns-clause-rest : goal.returns-clause-rest
returns-clause-rest g c =
    let chip = g.M.Medium.chip c.args.medium.now in
    (read_first (bytes_of chip c.args.self.now.rest) (slot_tlv_view chip c.in_ok-tlv.tlv)
    (bytes_of chip c.in_ok-tlv.rest) c.in_ok-tlv.ensures.first).1

pub returns-in_err-tlv-clause-steps : goal.returns-in_err-tlv-clause-steps
returns-in_err-tlv-clause-steps g c =
    let bytes = bytes_of (g.M.Medium.chip c.args.medium.now) c.args.self.now.rest in
    let none : first_entry bytes ≡ None = sym {a = None} c.in_err-tlv.ensures.first in
    rw c.from_residual.ensures (entries_of-none bytes none)

pub returns-in_err-tlv-clause-ended : goal.returns-in_err-tlv-clause-ended
returns-in_err-tlv-clause-ended g c =
    let bytes = bytes_of (g.M.Medium.chip c.args.medium.now) c.args.self.now.rest in
    let none : first_entry bytes ≡ None = sym {a = None} c.in_err-tlv.ensures.first in
    rw c.from_residual.ensures (sym (rest_of-none bytes none))
