use Rattle.std.proofs.Common.{arith}
use Rattle.explaining.proofs.SlotLaws.{slot_range, slot_within}
use Rattle.explaining.proofs.slots.slot_of.Goals as goal

-- A slot lies in the flash.
pub returns-then-end-flash : goal.returns-then-end-flash
returns-then-end-flash c = λ there whole.
    let room = slot_within c.args.map.now c.args.image c.args.side c.args.map.now.is_map there in
    absurd (omega (arith, room, whole, c.if-end-flash.true, c.slot_start-start.ensures, c.slot_length.ensures))

-- The bytes of a slot are those of the flash from the slot's start on.
pub returns : goal.returns
returns c = λ there whole. rw (c.slot_start-start.ensures, c.slot_length.ensures)
    (slot_range c.args.map.now c.args.flash.now c.args.image c.args.side)
