-- A journal read from the front: its entries by their offsets, and what the first of them make of
-- the bytes of a flash.
use Rattle.std.specs.Prelude.{◌≡◌, ℕ, zero, suc, ◌+◌, ◌<◌, ◌≤◌, ◌==◌, List, length, replicate, slice_range, if◌then◌else◌}
use Rattle.std.specs.Int.{from_le_bytes, w32}
use Rattle.flash_model.specs.Torn.{replaced}

-- The number in the four bytes from an offset on, the lowest byte first.
abbrev pub number_at : List ℕ → ℕ → ℕ
number_at journal start = from_le_bytes w32 (slice_range journal start (start + 4))

-- The kind of the write whose entry begins at an offset, its address, and the length of its range.
abbrev pub kind_at : List ℕ → ℕ → ℕ
kind_at journal start = number_at journal start

abbrev pub place_at : List ℕ → ℕ → ℕ
place_at journal start = number_at journal (start + 4)

abbrev pub length_at : List ℕ → ℕ → ℕ
length_at journal start = number_at journal (start + 8)

-- What this write leaves in its range.
abbrev pub done_at : List ℕ → ℕ → List ℕ
done_at journal start = if kind_at journal start == 0
    then slice_range journal (start + 12) (start + 12 + length_at journal start)
    else replicate (length_at journal start) 0xff

-- The length of this entry in bytes.
abbrev pub room_at : List ℕ → ℕ → ℕ
room_at journal start = if kind_at journal start == 0 then 12 + length_at journal start else 12

-- The offset of entry k, counted from 0. It is also the length of the first k entries.
abbrev pub position : List ℕ → ℕ → ℕ
position journal zero = 0
position journal (suc k) = position journal k + room_at journal (position journal k)

-- What the first k entries make of the bytes of a flash, performed one by one.
abbrev pub replayed : List ℕ → List ℕ → ℕ → List ℕ
replayed base journal zero = base
replayed base journal (suc k) =
    let start = position journal k in
    replaced (place_at journal start) (done_at journal start) (replayed base journal k)

-- An entry begins at this offset of a journal: its bytes lie in the journal, and its range in a
-- flash of `size` bytes.
pub record IsEntryAt (size : ℕ) (journal : List ℕ) (start : ℕ) : Type 0 where
  pub whole : start + room_at journal start ≤ length journal
  pub inside : place_at journal start + length_at journal start ≤ size

-- The journal begins with this number of entries.
abbrev pub AreEntries : ℕ → List ℕ → ℕ → Type 0
AreEntries size journal count =
    (k : ℕ) → k < count → IsEntryAt size journal (position journal k)

-- An entry is performed on the bytes of a flash of `size` bytes of which a part, from `at` on, was
-- copied.
abbrev pub Performs : ℕ → List ℕ → ℕ → ℕ → List ℕ → List ℕ → Type 0
Performs size journal start at old new = (bytes : List ℕ) → length bytes ≡ size
    → at + length old ≤ size → old ≡ slice_range bytes at (at + length old)
    → new ≡ slice_range (replaced (place_at journal start) (done_at journal start) bytes) at
    (at + length old)
