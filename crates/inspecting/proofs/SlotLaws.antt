-- The slots of images that are found one by one.
use Rattle.std.proofs.Common.{ℕ, ◌+◌, ◌<◌, ◌≡◌, ◌∙◌, List, [], ◌∷◌, ◌++◌, ap, arith, length, map, slice_range, subst, sym}
use Rattle.std.proofs.lemmas.List.{map-append}
use Rattle.std.specs.List.{AllZip, range_with_len}
use Rattle.common.proofs.Mapped.{AllZip-push}
use Rattle.flash_model.proofs.Ranges.{range_of_reads}
use Rattle.flash_model.specs.Chip.{Chip, Reads}
use Rattle.image_reading.specs.Slot.{slot_bytes}
use Rattle.sector_map.proofs.PartBytes.{end_of, part_inside}
use Rattle.sector_map.specs.declared.layout.SectorMap.{SectorMap}
use Rattle.sector_map.specs.declared.layout.Side.{Side}
use Rattle.sector_map.specs.Map.{IsLaidOut, length_of, part_of, start_of}
use Rattle.sector_map.specs.Part.{Slot}
use Rattle.trailer.proofs.Places.{some_slot}
use Rattle.set_log.specs.declared.state.State.{State}
use Rattle.inspecting.specs.SlotsFound.{AreSlotsOf, AreSlotsUpTo}
use Rattle.inspecting.specs.declared.slots_found.ImageSlots.{ImageSlots}
use Rattle.device_texts.proofs.TextLaws.{range-more}

-- A value of one more image is found.
pub mapped-more : {A : Type 0} (of : ℕ → A) (n : ℕ)
    → map of (range_with_len 0 (n + 1)) ≡ map of (range_with_len 0 n) ++ of n ∷ []
mapped-more of n = ap (map of) (range-more n) ∙ map-append of (range_with_len 0 n) (n ∷ [])

-- The slots of one more image are found.
pub AreSlotsUpTo-more : (map : SectorMap) (chip : Chip) (state : State) (n : ℕ) (all : List ImageSlots)
    (slots : ImageSlots) → AreSlotsUpTo map chip state n all → AreSlotsOf map chip state n slots
    → AreSlotsUpTo map chip state (n + 1) (all ++ slots ∷ [])
AreSlotsUpTo-more map chip state n all slots each one =
    subst (λ (numbers : List ℕ). AllZip (AreSlotsOf map chip state) numbers (all ++ slots ∷ [])) (sym (range-more n))
    (AllZip-push (AreSlotsOf map chip state) (range_with_len 0 n) all n slots each one)

-- Bytes that are read from the start of a slot on, as many as it has, are those of the slot.
pub slot_read : (map : SectorMap) (chip : Chip) (image : ℕ) (side : Side) (bytes : List ℕ) → IsLaidOut map chip
    → image < map.images → length bytes ≡ length_of map (Slot image side)
    → Reads chip (start_of map (Slot image side)) bytes → bytes ≡ slot_bytes map chip image side
unfolding part_of
slot_read map chip image side bytes laid there long reads =
    let start = start_of map (Slot image side) in
    let inside = part_inside map chip (Slot image side) laid (some_slot map image side laid.is_map there) in
    sym (range_of_reads chip start bytes reads (omega (arith, long, inside, laid.whole)))
    ∙ ap (slice_range chip.bytes start) (ap (λ n. start + n) long ∙ sym (end_of map (Slot image side)))
