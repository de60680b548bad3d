-- Spans of a flash, as lists of bytes.
use Rattle.std.specs.Prelude.{◌≡◌, ℕ, ◌+◌, ◌^◌, ◌<◌, ◌≤◌, List, length, take, drop, true}
use Rattle.flash_model.specs.Chip.{Chip}
use Rattle.image_reading.specs.declared.span.Span.{Span}

-- The bytes of a span.
unfoldable pub bytes_of : Chip → Span → List ℕ
bytes_of chip span = take span.len (drop span.at chip.bytes)

-- A span is inside a flash.
abbrev pub IsInside : Chip → Span → Type 0
IsInside chip span = (span.at + span.len ≤ length chip.bytes)

-- A span can be read: it is inside the flash, which is on.
pub record CanRead (chip : Chip) (span : Span) : Type 0 where
  pub on : chip.is_on ≡ true
  pub inside : IsInside chip span
  pub addressed : span.at + span.len < 2 ^ 63
  -- it has its length in bytes, since it is inside the flash
  pub whole : length (bytes_of chip span) ≡ span.len
