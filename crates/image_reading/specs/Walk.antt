-- The result of a walk over the entries of an area.
use Rattle.std.specs.Prelude.{◌≡◌, ℕ, List, ◌++◌}
use Rattle.std.specs.List.{AllByRecursion}
use Rattle.image_reading.specs.Area.{Entry, FitsEntry, entries_bytes, entry_bytes}

-- Bytes begin with an entry that fits its fields.
abbrev pub BeginsWithEntry : List ℕ → Type 0
BeginsWithEntry bytes = (entry : Entry) × (after : List ℕ)
    × FitsEntry entry × (bytes ≡ entry_bytes entry ++ after)

-- A walk over an area gives these entries, and leaves this rest. The area is the bytes of the
-- entries followed by the rest. The rest doesn't begin with a further entry.
pub record IsWalk (area : List ℕ) (entries : List Entry) (rest : List ℕ) : Type 0 where
  pub parts : area ≡ entries_bytes entries ++ rest
  pub fit : AllByRecursion FitsEntry entries
  pub ended : BeginsWithEntry rest → ⊥
