use Rattle.std.proofs.Common.{◌≡◌, ◌++◌, ◌∙◌, ap, arith, drop, length, rules, take}
use Rattle.std.proofs.Math.Seq.{take-append_seam}
use Rattle.sector_map.proofs.PartBytes.{part_inside}
use Rattle.sector_map.specs.Map.{length_of}
use Rattle.sector_map.specs.Part.{Slot}
use Rattle.sector_map.specs.declared.layout.Side.TheVariants.{Primary}
use Rattle.trailer.proofs.Places.{some_slot}
use Rattle.inspecting.proofs.SlotLaws.{slot_read}
use Rattle.inspecting.proofs.slots_found.read_primary.Goals as goal

-- The slot lies on the flash.
pub read-requires : goal.read-requires
read-requires g c =
    let map = c.args.map.now in
    let image = c.args.image in
    let laid = c.requires.laid_out in
    let long : length c.as_mut_slice.result.now ≡ length_of map (Slot image Primary) = omega
    (arith, c.as_mut_slice.ensures.len, c.in_ok-slot.ensures.len, c.slot_length.ensures) in
    rw (c.slot_start.ensures, long)
    (part_inside map _ (Slot image Primary) laid (some_slot map image Primary laid.is_map c.requires.there))

-- The bytes that were read are all bytes of the slot.
pub returns-clause-bytes : goal.returns-clause-bytes
returns-clause-bytes g c =
    let map = c.args.map.now in
    let image = c.args.image in
    let out = c.read.new.out in
    let rest = drop (length out) c.in_ok-slot.slot.items in
    let long : length out ≡ length_of map (Slot image Primary) = search rules in
    let whole : c.in_ok-slot.slot.len ≡ length out = search rules in
    let reads = rw (c.in-Ok.is, c.slot_start.ensures) at c.read.ensures.ok in
    ap (λ n. take n (out ++ rest)) whole ∙ take-append_seam out rest
    ∙ slot_read map _ image Primary out c.requires.laid_out c.requires.there long reads
