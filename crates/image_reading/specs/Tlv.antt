-- A walk over the entries of an area in memory: the entries that it gives, and those that remain.
use Rattle.std.specs.Prelude.{ℕ, List}
use Rattle.image_reading.specs.declared.tlvs.Tlv.{Tlv}
use Rattle.image_reading.specs.declared.tlvs.Tlvs.{Tlvs}
use Rattle.image_reading.specs.Area.{Entry}
use Rattle.image_reading.specs.Reading.{entries_of}

-- The entry, with the bytes of its value.
abbrev pub tlv_view : Tlv → Entry
tlv_view tlv = record { kind = tlv.kind; value = tlv.value.now }

-- The bytes after the entries given so far.
abbrev pub tlvs_rest : Tlvs → List ℕ
tlvs_rest tlvs = tlvs.rest.now

-- The remaining entries.
abbrev pub tlvs_left : Tlvs → List Entry
tlvs_left tlvs = entries_of (tlvs_rest tlvs)
