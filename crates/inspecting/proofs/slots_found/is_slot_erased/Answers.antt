use Rattle.sector_map.specs.Part.{Slot}
use Rattle.sector_map.proofs.PartBytes.{part_inside}
use Rattle.trailer.proofs.Places.{some_slot}
use Rattle.inspecting.proofs.slots_found.is_slot_erased.Goals as goal

-- The slot lies on the flash.
pub is_erased-requires : goal.is_erased-requires
is_erased-requires g c =
    let there = some_slot c.args.map.now c.args.image c.args.side c.requires.laid_out.is_map c.requires.there in
    rw (c.slot_start.ensures, c.slot_length.ensures)
    (part_inside c.args.map.now _ (Slot c.args.image c.args.side) c.requires.laid_out there)
