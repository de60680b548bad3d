-- The sizes and addresses that texts spell: decimal, hexadecimal, or in units of 1024 bytes.
use Rattle.std.specs.Prelude.{◌==◌, ◌&&◌, ◌||◌, ◌*◌, ◌-◌, ◌^◌, ℕ, Bool, Option, Some, None, drop, if◌then◌else◌, length, nat_le, nat_lt, option_and_then, slice_index, take}
use Rattle.std.specs.Char.{is_ascii_hexdigit}
use Rattle.std.specs.List.{list_all}
use Rattle.std.specs.Str.Parse.{digits_value}
use Rattle.clap.specs.Words.{Text}
use Rattle.common.specs.Ascii.{number_of}

-- The bytes of a unit `k` or `K`.
abbrev pub KIB : ℕ
KIB = 1024

-- The bytes of a unit `M`.
abbrev pub MIB : ℕ
MIB = 1024 * 1024

-- A number, if it is below 2 ^ 32.
abbrev pub if_fits : ℕ → Option ℕ
if_fits number = if nat_lt number (2 ^ 32) then Some number else None

-- The number that one or more hexadecimal digits spell, in either case.
unfoldable pub hexadecimal_of : Text → Option ℕ
hexadecimal_of digits =
    if nat_lt 0 (length digits) && list_all is_ascii_hexdigit digits
    then if_fits (digits_value 16 digits) else None

-- The bytes of the units of this size whose number a text spells in decimal.
abbrev pub units_of : ℕ → Text → Option ℕ
units_of unit text = option_and_then (λ count. if_fits (count * unit)) (number_of text)

-- A text begins with `0x`.
abbrev pub begins_hexadecimal : Text → Bool
begins_hexadecimal text =
    nat_le 2 (length text) && slice_index text 0 == 48 && slice_index text 1 == 120

-- A text ends with this byte.
abbrev pub ends_in : ℕ → Text → Bool
ends_in byte text = nat_le 1 (length text) && slice_index text (length text - 1) == byte

-- A text without its last byte.
abbrev pub without_last : Text → Text
without_last text = take (length text - 1) text

-- The size or address that a text spells: `0x` and hexadecimal digits; a decimal number of units,
-- `k` or `K` (1024) or `M` (1024 * 1024); or a decimal number. A decimal number has no leading zeros,
-- and the size is below 2 ^ 32.
abbrev pub size_of : Text → Option ℕ
size_of text =
    if begins_hexadecimal text then hexadecimal_of (drop 2 text)
    else (if ends_in 107 text || ends_in 75 text then units_of KIB (without_last text)
    else (if ends_in 77 text then units_of MIB (without_last text) else number_of text))
