-- Lemmas about the unit of a size, written and read.
use Rattle.std.proofs.Common.{◌≡◌, ℕ, ◌*◌, ◌^◌, ◌<◌, ◌≤◌, ◌&&◌, Bool, true, arith, ◌∙◌, ap, refl, List, [], ◌∷◌, Some, None, nat_lt, nat_le, if◌then◌else◌}
use Rattle.std.proofs.lemmas.Bool.Decides.{nat_tests}
use Rattle.byteorder.specs.Endian.{little_number}
use Rattle.byteorder.specs.Numbers.{little_number-reads_back}
use Rattle.flash_model.specs.Chip.{Chip}
use Rattle.sector_map.specs.declared.layout.SectorMap.{SectorMap}
use Rattle.sector_map.specs.declared.layout.Side.{Side}
use Rattle.sector_map.specs.Map.{slot_sectors}
use Rattle.trailer.specs.Fields.{bytes_at, fields_in, fields_at, size_bytes, size_in}

-- A size that was written is read back.
size_reads : (limit size : ℕ) → size < 2 ^ 32 → 0 < size → size ≤ limit → size_in limit (size_bytes size) ≡ Some size
size_reads limit size fits some le =
    let number : little_number 4 (size_bytes size) ≡ size = little_number-reads_back 4 size (0 ∷ 0 ∷ 0 ∷ 0 ∷ [])
    (omega arith) in
    let low : nat_lt 0 (little_number 4 (size_bytes size)) ≡ true = grind (arith, nat_tests, number) in
    let high : nat_le (little_number 4 (size_bytes size)) limit ≡ true = grind (arith, nat_tests, number) in
    ap (λ (b : Bool). if b && (nat_le (little_number 4 (size_bytes size)) limit && true) then Some
    (little_number 4 (size_bytes size)) else None) low
    ∙ ap (λ (b : Bool). if b && true then Some (little_number 4 (size_bytes size)) else None) high
    ∙ ap (λ (n : ℕ). Some n) number

pub size_is : (map : SectorMap) (chip : Chip) (image : ℕ) (side : Side)
    → (fields_at map chip image side).size ≡ size_in (slot_sectors map image * map.sector_size)
    (bytes_at map chip image side 48 8)
unfolding fields_at fields_in
size_is map chip image side = refl

pub size_written : (map : SectorMap) (chip : Chip) (image size : ℕ) (side : Side)
    → bytes_at map chip image side 48 8 ≡ size_bytes size → size < 2 ^ 32 → 0 < size
    → size ≤ slot_sectors map image * map.sector_size → (fields_at map chip image side).size ≡ Some size
size_written map chip image size side is fits some le =
    size_is map chip image side ∙ ap (λ (unit : List ℕ). size_in (slot_sectors map image * map.sector_size) unit) is ∙
    size_reads _ size fits some le
