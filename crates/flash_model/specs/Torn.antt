-- What a power cut leaves of the range of a write, and which writes are armed to be interrupted.
use Rattle.std.specs.Prelude.{ℕ, ◌+◌, ◌/◌, ◌%◌, ◌==◌, List, [], ◌∷◌, ◌++◌, length, take, drop, map}
use Rattle.std.specs.Prelude.{if◌then◌else◌, Option, None, Some, option_map, slice_index, slice_range, find}
use Rattle.std.specs.List.{range_with_len}
use Rattle.flash_model.specs.declared.torn.Armed.{Armed}
use Rattle.flash_model.specs.declared.torn.Torn.{Torn}
use Rattle.flash_model.specs.declared.torn.Torn.TheVariants.{Keep, Done, Half, Bytes}

-- The first n bytes of a pattern that is repeated.
abbrev pub repeated : List ℕ → ℕ → List ℕ
repeated pattern n = map (λ i. slice_index pattern (i % length pattern)) (range_with_len 0 n)

-- A range of these bytes overwritten with a repeated pattern; an empty pattern leaves it as it is.
abbrev pub with_pattern : List ℕ → List ℕ → List ℕ
with_pattern [] old = old
with_pattern (b ∷ bs) old = repeated (b ∷ bs) (length old)

-- A range that is half written: the first half of its new bytes, then the rest of its old ones.
abbrev pub half_done : List ℕ → List ℕ → List ℕ
half_done old done = take (length done / 2) done ++ drop (length done / 2) old

-- What a power cut leaves in a range, by its old bytes and those that were being written.
abbrev pub torn_bytes : Torn → List ℕ → List ℕ → List ℕ
torn_bytes Keep old done = old
torn_bytes Done old done = done
torn_bytes Half old done = half_done old done
torn_bytes (Bytes pattern) old done = with_pattern pattern.items old

-- All bytes, with others in place of those from an address on.
abbrev pub replaced : ℕ → List ℕ → List ℕ → List ℕ
replaced at range bytes = take at bytes ++ (range ++ drop (at + length range) bytes)

-- All bytes after a power cut in the write of `done` at an address.
abbrev pub torn_at : ℕ → List ℕ → Torn → List ℕ → List ℕ
torn_at at done torn bytes =
    replaced at (torn_bytes torn (slice_range bytes at (at + length done)) done) bytes

-- What the power cut in this write leaves, if one is armed; the first one armed for it counts.
abbrev pub torn_for : ℕ → List Armed → Option Torn
torn_for number armed = option_map (λ write. write.torn) (find (λ write. write.at == number) armed)

-- What a write leaves in its range: what its power cut leaves or, without one, the new bytes.
abbrev pub left_of : Option Torn → List ℕ → List ℕ → List ℕ
left_of None old done = done
left_of (Some torn) old done = torn_bytes torn old done

-- The power cut in a write, in a form that every kind of flash has.
pub record Cutting : Type 0 where
  -- The number of the write, from 1.
  pub number : ℕ
  -- What is left: 0 the old bytes, 1 the new ones, 2 half of these over the old, else the pattern.
  pub kind : ℕ
  pub pattern : List ℕ

-- What a power cut leaves in a range, by its old bytes and those that were being written.
abbrev pub left_by : Cutting → List ℕ → List ℕ → List ℕ
left_by cutting old done = if cutting.kind == 0 then old else if cutting.kind == 1 then done
    else if cutting.kind == 2 then half_done old done else with_pattern cutting.pattern old

-- What a write leaves in its range: what its power cut leaves or, without one, the new bytes.
abbrev pub left_if : Option Cutting → List ℕ → List ℕ → List ℕ
left_if None old done = done
left_if (Some cutting) old done = left_by cutting old done

-- What the write of a number leaves in its range; the first of its power cuts counts.
abbrev pub left_at : List Cutting → ℕ → List ℕ → List ℕ → List ℕ
left_at cuttings number old done =
    left_if (find (λ cutting. cutting.number == number) cuttings) old done

-- The number of a kind of power cut.
abbrev pub kind_of : Torn → ℕ
kind_of Keep = 0
kind_of Done = 1
kind_of Half = 2
kind_of (Bytes pattern) = 3

-- The pattern of a power cut, empty if it has none.
abbrev pub pattern_of : Torn → List ℕ
pattern_of (Bytes pattern) = pattern.items
pattern_of other = []

-- The power cut in an armed write, in the form of every flash.
abbrev pub cutting_of : Armed → Cutting
cutting_of write = record {
  number = write.at;
  kind = kind_of write.torn;
  pattern = pattern_of write.torn;
}
