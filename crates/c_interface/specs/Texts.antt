-- Texts in the caller's buffer.
use Rattle.std.specs.Prelude.{◌≡◌, ℕ, ◌^◌, ◌<◌, ◌≤◌, ◌⊎◌, ◌++◌, List, Option, Some, None, drop, length}

-- A buffer of this size is large enough for the text of each report that is right for a table that
-- was read.
abbrev pub MOST_REPORT : ℕ
MOST_REPORT = 2048

-- A text is longer than a buffer, or than the greatest length that 32 bits hold.
abbrev pub HasNoRoom : List ℕ → List ℕ → Type 0
HasNoRoom text room = (length room < length text) ⊎ (2 ^ 32 ≤ length text)

-- A text is at the front of a buffer, the rest of the buffer is unchanged, and the length of the
-- text is reported; or it doesn't fit, the reported length is 0, and the buffer is unchanged.
pub data IsPut (text : List ℕ) (written : ℕ) (old new : List ℕ) : Type 0 where
  Put : written ≡ length text → new ≡ text ++ drop (length text) old → IsPut text written old new
  NotPut : HasNoRoom text old → written ≡ 0 → new ≡ old → IsPut text written old new

-- The same with an optional length.
abbrev pub IsTried : List ℕ → List ℕ → List ℕ → Option ℕ → Type 0
IsTried text old new (Some written) =
    (written ≡ length text) × (new ≡ text ++ drop (length text) old)
IsTried text old new None = HasNoRoom text old × (new ≡ old)
