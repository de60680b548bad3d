-- How many bytes before the end of its sector each field of a trailer begins. The unit of swap
-- info, at 40, is left erased.
use Rattle.std.specs.Prelude.{ℕ}

-- Where the withdrawn unit, bootswap's own, begins, in bytes before the end of the trailer.
abbrev pub withdrawn_place : ℕ
withdrawn_place = 56

-- Where `swap_size` begins, in bytes before the end of the trailer.
abbrev pub swap_size_place : ℕ
swap_size_place = 48

-- Where `copy_done` begins, in bytes before the end of the trailer.
abbrev pub copy_done_place : ℕ
copy_done_place = 32

-- Where `image_ok` begins, in bytes before the end of the trailer.
abbrev pub image_ok_place : ℕ
image_ok_place = 24

-- Where the magic, the last 16 bytes, begins, in bytes before the end of the trailer.
abbrev pub magic_place : ℕ
magic_place = 16
