-- What a flash knows of the entries of its journal, so that a read begins at a late one.
use Rattle.std.specs.Prelude.{◌≡◌, ◌⊎◌, ℕ, ◌+◌, ◌*◌, ◌/◌, ◌%◌, ◌^◌, ◌<◌, ◌≤◌, ◌==◌, Bool, false, List, length}
use Rattle.std.specs.Prelude.{slice_index, slice_set, if◌then◌else◌}
use Rattle.std.specs.Int.{bit_at}
use Rattle.std.specs.List.{All}
use Rattle.flash_model.specs.Torn.{replaced}
use Rattle.slice_flash.specs.Overlay.{position, replayed}
use Rattle.slice_flash.specs.Steps.{IsAccepted, Step, at_of, range_of, spelled}
use Rattle.slice_flash.specs.declared.index.Index.{Index}
use Rattle.slice_flash.specs.declared.index.Row.{Row}
use Rattle.slice_flash.specs.declared.index.Start.{Start}

-- A read of the n bytes from an address on may leave out the first entries of a journal: they leave
-- the range blank, or as it is in the base.
pub record IsStart (base journal : List ℕ) (writes at n : ℕ) (start : Start) : Type 0 where
  pub offset : start.offset ≡ position journal start.entries
  pub entries : start.entries ≤ writes
  pub bytes : (k : ℕ) → at ≤ k → k < at + n → slice_index (replayed base journal start.entries) k
      ≡ (if start.is_blank then 0xff else slice_index base k)

-- The start that a row holds.
abbrev pub start_in : Row → Start
start_in row = record { entries = row.entries; offset = row.offset; is_blank = row.is_blank }

-- The start that is right for each range.
abbrev pub first_start : Start
first_start = record { entries = 0; offset = 0; is_blank = false }

-- A row holds a start, or the one that is right for each range if the numbers of this start don't
-- fit in 32 bits.
pub data IsShort (start held : Start) : Type 0 where
  Held : held ≡ start → IsShort start held
  TooLong : (2 ^ 32 ≤ start.entries) ⊎ (2 ^ 32 ≤ start.offset) → held ≡ first_start
      → IsShort start held

-- The row of a sector is put in its place, with this start.
pub record PutsRow (sector : ℕ) (start : Start) (old new : List Row) : Type 0 where
  pub row : Row
  pub sector_is : row.sector ≡ sector
  pub short : IsShort start (start_in row)
  pub rows : new ≡ slice_set old (sector % 64) row

-- A read of any part of the row's sector may begin where the row says.
abbrev pub IsRow : ℕ → List ℕ → List ℕ → ℕ → Row → Type 0
IsRow size base journal writes row =
    IsStart base journal writes (row.sector * size) size (start_in row)

-- Whether the bit of a sector is set. Sectors that are 1024 apart share one.
abbrev pub is_touched : List ℕ → ℕ → Bool
is_touched touched sector =
    bit_at (slice_index touched (sector / 64 % 16)) (sector % 64) == 1

-- The first writes leave a sector as it is in the base.
abbrev pub IsUntouched : ℕ → List ℕ → List ℕ → ℕ → ℕ → Type 0
IsUntouched size base journal writes sector =
    (k : ℕ) → sector * size ≤ k → k < sector * size + size
    → slice_index (replayed base journal writes) k ≡ slice_index base k

-- What an index says holds for a flash with this journal after this number of writes.
pub record IsIndex (size : ℕ) (base journal : List ℕ) (writes : ℕ) (index : Index) : Type 0 where
  pub rows : All (IsRow size base journal writes) index.rows
  pub untouched : (sector : ℕ) → is_touched index.touched sector ≡ false
      → IsUntouched size base journal writes sector

-- A journal after one more entry: that of a write which a driver accepts.
pub record IsOneMore (size : ℕ) (base old new : List ℕ) (writes : ℕ) (step : Step) : Type 0 where
  pub positions : (k : ℕ) → k ≤ writes → position new k ≡ position old k
  pub before : (k : ℕ) → k ≤ writes → replayed base new k ≡ replayed base old k
  pub end : position new (writes + 1) ≡ position old writes + length (spelled step)
  pub bytes : replayed base new (writes + 1)
      ≡ replaced (at_of step) (range_of step) (replayed base old writes)
  pub accepted : IsAccepted size step (replayed base old writes)

-- An index that was right is right after one more entry: that of this write, which follows the
-- first ones, at this offset.
abbrev pub Notes : ℕ → ℕ → ℕ → Step → Index → Index → Type 0
Notes size writes used step was now = (base old new : List ℕ) → used ≡ position old writes
    → IsOneMore size base old new writes step → IsIndex size base old writes was
    → IsIndex size base new (writes + 1) now
