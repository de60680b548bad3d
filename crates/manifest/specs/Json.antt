-- Which JSON value bytes are (RFC 8259), and which values an object has at its keys.
use Rattle.std.specs.Prelude.{◌≡◌, ℕ, IsSomeAnd, IsUtf8, List, [], ◌∷◌, Option, Some, option_and_then, option_map}
use Rattle.std.specs.Result.{result_ok}
use Rattle.hex.specs.Hex.{decode_sized}
use Rattle.serde_json.specs.Data.{Data, Items, Members, item, member, no_items, no_members}
use Rattle.serde_json.specs.Find.{as_array, as_number, as_object, as_str, as_u64, get}
use Rattle.serde_json.specs.Read.{read}
use Rattle.uuid.specs.Text.{parsed}

-- Bytes are a value's JSON text: UTF-8, at most 127 levels deep; the last of repeated names counts.
abbrev pub IsJson : List ℕ → Data → Type 0
IsJson bytes value = IsUtf8 bytes × (read bytes ≡ Some value)

-- The names of an object's members in order: of a value that was read, each once, sorted by bytes.
abbrev pub names_of : Members → List (List ℕ)
names_of no_members = []
names_of (member name value members) = name ∷ names_of members

-- A value is an object with these names and no other.
abbrev pub HasNames : List (List ℕ) → Data → Type 0
HasNames names value = IsSomeAnd (as_object value) (λ members. names_of members ≡ names)

-- The values of an array, in order.
abbrev pub values_of : Items → List Data
values_of no_items = []
values_of (item value items) = value ∷ values_of items

-- The number from 0 on that a value is, if it is written without a fraction or an exponent.
abbrev pub whole_number : Data → Option ℕ
whole_number value = option_and_then as_u64 (as_number value)

-- The number from 0 on at a key, if it is written without a fraction or an exponent.
abbrev pub number_at : List ℕ → Data → Option ℕ
number_at key value = option_and_then as_u64 (option_and_then as_number (get key value))

-- The text at a key.
abbrev pub text_at : List ℕ → Data → Option (List ℕ)
text_at key value = option_and_then as_str (get key value)

-- The values of the array at a key.
abbrev pub array_at : List ℕ → Data → Option (List Data)
array_at key value = option_map values_of (option_and_then as_array (get key value))

-- The UUID that the text at a key spells, in any form and either case (RFC 9562, section 4).
abbrev pub uuid_at : List ℕ → Data → Option (List ℕ)
uuid_at key value = option_and_then parsed (text_at key value)

-- The 32 bytes that the text at a key spells, in 64 hexadecimal digits of either case.
abbrev pub digest_at : List ℕ → Data → Option (List ℕ)
digest_at key value = option_and_then (λ text. result_ok (decode_sized text 32)) (text_at key value)
