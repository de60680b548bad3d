-- The part of a file that two words name.
use Rattle.std.specs.Prelude.{◌≡◌, ℕ, ◌+◌, ◌<◌, ◌≤◌, ◌^◌, List, length, decimal, slice_range}
use Rattle.device_texts.specs.Said.{PartWords}

-- The words are these decimal numbers below 2 ^ 64, without leading zeros.
pub record AreNumbers (words : PartWords) (from count : ℕ) : Type 0 where
  pub from_word : words.from ≡ decimal from
  pub count_word : words.count ≡ decimal count
  pub from_fits : from < 2 ^ 64
  pub count_fits : count < 2 ^ 64

-- The words are decimal numbers without leading zeros, and this is the part that they name: COUNT
-- bytes from byte number FROM on. The first byte has number 0. The file has that part, so both
-- numbers are below 2 ^ 64.
abbrev pub IsPart : PartWords → List ℕ → List ℕ → Type 0
IsPart words bytes part =
    (from : ℕ) × (count : ℕ) × (words.from ≡ decimal from) × (words.count ≡ decimal count)
    × (from + count ≤ length bytes) × (part ≡ slice_range bytes from (from + count))
