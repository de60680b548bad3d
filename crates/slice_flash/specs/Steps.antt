-- The journal of a flash: the bytes that record its writes, and what these writes make of a flash.
use Rattle.std.specs.Prelude.{◌≡◌, ℕ, ◌+◌, ◌*◌, ◌<◌, ◌≤◌, List, [], ◌∷◌, ◌++◌, length, replicate, ⊤}
use Rattle.std.specs.Int.{to_le_bytes, w32}
use Rattle.flash_model.specs.Chip.{Fixed, unarmed}
use Rattle.flash_model.specs.Torn.{replaced}
use Rattle.flash_model.specs.Written.{IsProgram}

-- A write in a journal: the bytes that were programmed at an address, or how many bytes were erased
-- from an address on.
pub data Step : Type 0 where
  Programmed : (at : ℕ) (bytes : List ℕ) → Step
  Erased : (at n : ℕ) → Step

-- The address of a write.
abbrev pub at_of : Step → ℕ
at_of (Programmed at bytes) = at
at_of (Erased at n) = at

-- What a write leaves in its range.
abbrev pub range_of : Step → List ℕ
range_of (Programmed at bytes) = bytes
range_of (Erased at n) = replicate n 0xff

-- Three numbers of 4 bytes, the lowest byte first: the kind of a write, its address, and the length
-- of its range in bytes.
abbrev pub header : ℕ → ℕ → ℕ → List ℕ
header kind at n = to_le_bytes w32 kind ++ (to_le_bytes w32 at ++ to_le_bytes w32 n)

-- The bytes that record a write. A program is of kind 0, and its own bytes follow the numbers. An
-- erase is of kind 1.
abbrev pub spelled : Step → List ℕ
spelled (Programmed at bytes) = header 0 at (length bytes) ++ bytes
spelled (Erased at n) = header 1 at n

-- The bytes that record these writes, one after the other. The last write comes first in the list.
abbrev pub spelling : List Step → List ℕ
spelling [] = []
spelling (step ∷ before) = spelling before ++ spelled step

-- What these writes make of the bytes of a flash, performed one by one. The last write comes first
-- in the list.
abbrev pub after_steps : List ℕ → List Step → List ℕ
after_steps first [] = first
after_steps first (step ∷ before) =
    replaced (at_of step) (range_of step) (after_steps first before)

-- The n bytes from an address on are one sector of a flash with these bytes, in sectors of this
-- size.
pub record IsSectorAt (size at n : ℕ) (bytes : List ℕ) : Type 0 where
  pub sector : ℕ
  pub place : at ≡ sector * size
  pub whole : n ≡ size
  pub inside : at + n ≤ length bytes

-- A driver accepts this write on a flash with these bytes, in sectors of this size: a program of
-- whole units over erased bytes, or an erase of one sector.
abbrev pub IsAccepted : ℕ → Step → List ℕ → Type 0
IsAccepted size (Programmed at done) bytes = IsProgram (record { at = at; done = done }) bytes
IsAccepted size (Erased at n) bytes = IsSectorAt size at n bytes

-- A driver accepts each of these writes on the bytes that the writes before it left. The last write
-- comes first in the list.
abbrev pub AreAccepted : ℕ → List ℕ → List Step → Type 0
AreAccepted size first [] = ⊤
AreAccepted size first (step ∷ before) =
    IsAccepted size step (after_steps first before) × AreAccepted size first before

-- These bytes of a journal record exactly this number of writes. Performed one by one on the first
-- bytes of a flash, in sectors of this size, the writes make its bytes.
pub record IsRecordedBy (size : ℕ) (first bytes recorded : List ℕ) (writes : ℕ) : Type 0 where
  -- The writes, with the last one first.
  pub steps : List Step
  pub spells : recorded ≡ spelling steps
  pub counted : writes ≡ length steps
  pub makes : bytes ≡ after_steps first steps
  pub accepted : AreAccepted size first steps

-- A journal of `room` bytes, of which `used` are used, is too short for one more write: a driver
-- accepts the write on a flash with these bytes, in sectors of this size.
pub record IsTooShort (size : ℕ) (bytes : List ℕ) (room used : ℕ) : Type 0 where
  pub step : Step
  pub accepted : IsAccepted size step bytes
  pub long : room < used + length (spelled step)

-- What no call changes of a flash that had the first bytes and whose journal had the others. The
-- borrows of both have these names. That of bytes that are only read has the name 0.
abbrev pub fixed_over : List ℕ → ℕ → List ℕ → ℕ → Fixed
fixed_over first name journal_first journal_name = record unarmed {
  first = first;
  name = name;
  journal = journal_name;
  journal_first = journal_first;
}
