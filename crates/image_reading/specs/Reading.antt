-- Reading entries from left to right, step by step. The readers follow these steps. `IsWalk` says
-- what they result in.
use Rattle.std.specs.Prelude.{ℕ, zero, suc, ◌+◌, ◌-◌, List, [], ◌∷◌, length, take, drop, Option, Some, None, nat_lt, if◌then◌else◌}
use Rattle.std.specs.Option.{option_map_or}
use Rattle.byteorder.specs.Endian.{little_number}
use Rattle.image_reading.specs.Area.{Entry, values_of}

-- The length of the first entry's value, as its head says.
abbrev pub value_size : List ℕ → ℕ
value_size bytes = little_number 2 (drop 2 bytes)

-- The entry of the head, and the bytes after it.
abbrev pub entry_at : List ℕ → Entry
entry_at bytes = record {
  kind = little_number 2 bytes;
  value = take (value_size bytes) (drop 4 bytes);
}

abbrev pub after_entry : List ℕ → List ℕ
after_entry bytes = drop (4 + value_size bytes) bytes

-- The first entry, if one fits, and the bytes after it.
unfoldable pub first_entry : List ℕ → Option (Entry × List ℕ)
first_entry bytes = if nat_lt (length bytes) 4 then None
    else (if nat_lt (length bytes - 4) (value_size bytes) then None
    else Some (entry_at bytes, after_entry bytes))

-- At most `count` entries, up to the first that doesn't fit, and the bytes after them.
unfoldable pub entries_within : ℕ → List ℕ → List Entry
entries_within zero bytes = []
entries_within (suc count) bytes =
    option_map_or (λ found. found.0 ∷ entries_within count found.1) (first_entry bytes) []

unfoldable pub rest_within : ℕ → List ℕ → List ℕ
rest_within zero bytes = bytes
rest_within (suc count) bytes =
    option_map_or (λ found. rest_within count found.1) (first_entry bytes) bytes

-- All entries, up to the first that doesn't fit. There are at most as many entries as bytes.
abbrev pub entries_of : List ℕ → List Entry
entries_of bytes = entries_within (length bytes) bytes

abbrev pub rest_of : List ℕ → List ℕ
rest_of bytes = rest_within (length bytes) bytes

-- The values of the entries of a type, in order.
abbrev pub values_read : ℕ → List ℕ → List (List ℕ)
values_read kind bytes = values_of kind (entries_of bytes)
