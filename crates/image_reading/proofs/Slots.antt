-- The span of a slot in the flash.
use Rattle.std.proofs.Common.{◌≡◌, ℕ, ◌+◌, ◌-◌, ◌*◌, ◌<◌, ◌≤◌, true, take, drop, ap, ◌∙◌, arith}
use Rattle.flash_model.specs.Chip.{Chip, size_of}
use Rattle.sector_map.specs.declared.layout.SectorMap.{SectorMap}
use Rattle.sector_map.specs.declared.layout.Side.{Side}
use Rattle.sector_map.specs.Part.{Slot}
use Rattle.sector_map.specs.Map.{IsLaidOut, count_of, first_of, length_of, part_of, start_of}
use Rattle.sector_map.proofs.PartBytes.{end_of, part_inside}
use Rattle.image_reading.specs.declared.span.Span.{Span}
use Rattle.image_reading.specs.Slot.{slot_bytes}
use Rattle.image_reading.specs.Span.{CanRead, bytes_of}
use Rattle.image_reading.proofs.Spans.{CanRead-span}

-- The span at the slot's first byte, with the slot's length, has the slot's bytes.
pub bytes_of-slot : (map : SectorMap) (chip : Chip) (image : ℕ) (side : Side) (span : Span)
    → span.at ≡ start_of map (Slot image side) → span.len ≡ length_of map (Slot image side)
    → bytes_of chip span ≡ slot_bytes map chip image side
unfolding bytes_of part_of
bytes_of-slot map chip image side span at len =
    let slot = Slot image side in
    let size : span.len ≡ (first_of map slot + count_of map slot) * map.sector_size - start_of map slot =
    omega (arith, len, end_of map slot) in
    ap (λ (n : ℕ). take n (drop span.at chip.bytes)) size
    ∙ ap (λ (a : ℕ). take ((first_of map slot + count_of map slot) * map.sector_size - start_of map slot)
    (drop a chip.bytes)) at

-- The span of a slot can be read if the flash is on.
pub CanRead-slot : (map : SectorMap) (chip : Chip) (image : ℕ) (side : Side) (span : Span) → IsLaidOut map chip
    → image < map.images → chip.is_on ≡ true
    → span.at ≡ start_of map (Slot image side) → span.len ≡ length_of map (Slot image side)
    → CanRead chip span
CanRead-slot map chip image side span laid there on at len =
    let some : 0 < count_of map (Slot image side) = omega (arith, laid.is_map.counts.some image there) in
    let inside : span.at + span.len ≤ size_of chip =
    omega (arith, at, len, part_inside map chip (Slot image side) laid some) in
    CanRead-span chip span on (omega (arith, inside, laid.whole)) (omega (arith, inside, laid.size))
