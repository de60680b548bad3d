-- Lemmas about blank trailers.
use Rattle.std.proofs.Common.{◌≡◌, ℕ, ◌*◌, true, None, refl, sym, ap, slice_range}
use Rattle.flash_model.specs.Chip.{Chip}
use Rattle.flash_model.specs.Units.{are_erased}
use Rattle.sector_map.specs.declared.layout.SectorMap.{SectorMap}
use Rattle.sector_map.specs.declared.layout.Side.{Side}
use Rattle.sector_map.specs.Map.{slot_sectors}
use Rattle.trailer.specs.Fields.{Fields, erased_fields, fields_at, fields_in, trailer_bytes, trailer_of}
use Rattle.trailer.specs.declared.kinds.Trailer.{Trailer}

-- No status unit is set exactly if the range of the status units is erased.
pub fresh_is : (map : SectorMap) (chip : Chip) (image n : ℕ) (side : Side) → n ≡ 24 * slot_sectors map image
    → (fields_at map chip image side).is_fresh ≡ are_erased (slice_range (trailer_bytes map chip image side) 0 n)
unfolding fields_at fields_in
fresh_is map chip image n side is =
    ap (λ m. are_erased (slice_range (trailer_bytes map chip image side) 0 m)) (sym is)

-- A trailer is blank if each of its fields is.
pub blank_fields : (fields : Fields) → trailer_of fields ≡ trailer_of erased_fields → fields.size ≡ None
    → fields.is_fresh ≡ true → fields ≡ erased_fields
blank_fields fields same none fresh = rw (
  ap (λ (t : Trailer). t.magic) same,
  ap (λ (t : Trailer). t.copy_done) same,
  ap (λ (t : Trailer). t.image_ok) same,
  ap (λ (t : Trailer). t.withdrawn) same,
  none,
  fresh,
) refl
