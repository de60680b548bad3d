-- A walk over the entries of an area in a flash: the entries that it gives, and those that remain.
use Rattle.std.specs.Prelude.{◌≡◌, ℕ, ◌+◌, List, [], ◌∷◌, Option, Some, None}
use Rattle.std.specs.Option.{option_map_or}
use Rattle.flash_model.specs.Chip.{Chip}
use Rattle.image_reading.specs.declared.slot_tlvs.SlotTlv.{SlotTlv}
use Rattle.image_reading.specs.declared.slot_tlvs.SlotTlvs.{SlotTlvs}
use Rattle.image_reading.specs.declared.span.Span.{Span}
use Rattle.image_reading.specs.Area.{Entry, values_of}
use Rattle.image_reading.specs.Reading.{entries_of, values_read}
use Rattle.image_reading.specs.Span.{bytes_of}

-- The entry, with the bytes of its value.
abbrev pub slot_tlv_view : Chip → SlotTlv → Entry
slot_tlv_view chip tlv = record { kind = tlv.kind; value = bytes_of chip tlv.value }

-- The span of the bytes after the entries given so far.
abbrev pub slot_tlvs_rest : SlotTlvs → Span
slot_tlvs_rest tlvs = tlvs.rest

-- The remaining entries.
abbrev pub slot_tlvs_left : Chip → SlotTlvs → List Entry
slot_tlvs_left chip tlvs = entries_of (bytes_of chip (slot_tlvs_rest tlvs))

-- A step gives the first of the remaining entries and leaves the others, or no entry remains.
abbrev pub IsStep : Chip → SlotTlvs → SlotTlvs → Option SlotTlv → Type 0
IsStep chip old new given = slot_tlvs_left chip old
    ≡ option_map_or (λ tlv. slot_tlv_view chip tlv ∷ slot_tlvs_left chip new) given []

-- An entry is at the beginning of a span, and the rest is after it. The entry's value follows the
-- head of four bytes. The rest follows the value, up to the end of the span.
pub record LiesFirst (span : Span) (tlv : SlotTlv) (rest : Span) : Type 0 where
  pub value : tlv.value.at ≡ span.at + 4
  pub rest_at : rest.at ≡ tlv.value.at + tlv.value.len
  pub end : rest.at + rest.len ≡ span.at + span.len

-- An entry that a step gives is at the beginning of the old rest. If there is none, the rest stays.
abbrev pub LiesAtStep : SlotTlvs → SlotTlvs → Option SlotTlv → Type 0
LiesAtStep old new (Some tlv) = LiesFirst (slot_tlvs_rest old) tlv (slot_tlvs_rest new)
LiesAtStep old new None = new ≡ old

-- The remaining values of one type.
abbrev pub slot_values_left : ℕ → Chip → SlotTlvs → List (List ℕ)
slot_values_left kind chip tlvs = values_of kind (slot_tlvs_left chip tlvs)

-- The values of one type among the entries in a span.
abbrev pub values_at : ℕ → Chip → Span → List (List ℕ)
values_at kind chip span = values_read kind (bytes_of chip span)
