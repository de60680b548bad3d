-- The pending request of an image.
use Rattle.std.specs.Prelude.{◌≡◌, ℕ, ◌&&◌, ◌≤◌, Bool, true, false, not, List, slice_index, slice_range}
use Rattle.std.specs.Prelude.{Option, Some, None, if◌then◌else◌}
use Rattle.flash_model.specs.Chip.{Chip}
use Rattle.sector_map.specs.declared.layout.SectorMap.{SectorMap}
use Rattle.sector_map.specs.declared.layout.Side.{Side}
use Rattle.sector_map.specs.declared.layout.Side.TheVariants.{Secondary}
use Rattle.sector_map.specs.Part.{Slot}
use Rattle.sector_map.specs.Map.{part_of}
use Rattle.trailer.specs.declared.kinds.Magic.{Magic}
use Rattle.trailer.specs.declared.kinds.Magic.TheVariants.{Good, Unset, Bad}
use Rattle.trailer.specs.declared.kinds.Trailer.{Trailer}
use Rattle.common.specs.declared.kind.Kind.{Kind}
use Rattle.common.specs.declared.kind.Kind.TheVariants.{Test, Permanent}
use Rattle.trailer.specs.Fields.{Fields, is_set, fields_at, trailer_of, erased_fields}
use Rattle.common.specs.Kind.{kind_of}

abbrev pub is_good : Magic → Bool
is_good Good = true
is_good Unset = false
is_good Bad = false

abbrev pub is_permanent : Kind → Bool
is_permanent Test = false
is_permanent Permanent = true

-- Whether the first unit of a slot's bytes is set.
abbrev pub first_is_set : List ℕ → Bool
first_is_set slot = is_set (slice_range slot 0 8)

-- The first sector of a slot, whose bytes these are, in sectors of this size.
abbrev pub first_sector : ℕ → List ℕ → List ℕ
first_sector size slot = slice_range slot 0 size

-- The pending request, by the secondary trailer and whether the secondary slot's first unit is set.
abbrev pub standing_kind : Trailer → Bool → Option Kind
standing_kind trailer is_filled =
    if is_good trailer.magic && (not trailer.withdrawn && is_filled)
    then Some (kind_of trailer.image_ok) else None

-- The bytes of the secondary slot of an image.
abbrev pub incoming_slot : SectorMap → Chip → ℕ → List ℕ
incoming_slot map chip image = part_of map chip (Slot image Secondary)

-- The pending request of an image, if it has one.
abbrev pub standing_of : SectorMap → Chip → ℕ → Option Kind
standing_of map chip image =
    standing_kind (trailer_of (fields_at map chip image Secondary))
    (first_is_set (incoming_slot map chip image))

-- The fields of the trailer of a request.
abbrev pub requested_fields : Kind → Fields
requested_fields kind = record erased_fields { magic = Good; image_ok = is_permanent kind }

-- The bytes of a slot after its first sector are unchanged.
pub record KeepsBehindFirst (map : SectorMap) (image : ℕ) (side : Side) (old new : Chip)
    : Type 0 where
  pub each : (k : ℕ) → map.sector_size ≤ k
      → slice_index (part_of map new (Slot image side)) k
      ≡ slice_index (part_of map old (Slot image side)) k
