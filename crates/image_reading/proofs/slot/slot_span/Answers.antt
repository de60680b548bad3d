use Rattle.image_reading.proofs.Slots.{CanRead-slot, bytes_of-slot}
use Rattle.image_reading.proofs.slot.slot_span.Goals as goal

pub returns-clause-bytes : goal.returns-clause-bytes
returns-clause-bytes c = λ chip laid.
    bytes_of-slot c.args.map.now chip c.args.image c.args.side _ c.slot_start.ensures c.slot_length.ensures

pub returns-clause-readable : goal.returns-clause-readable
returns-clause-readable c = λ chip laid on.
    CanRead-slot c.args.map.now chip c.args.image c.args.side _ laid c.requires on c.slot_start.ensures
    c.slot_length.ensures
