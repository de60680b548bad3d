-- A flash over borrowed bytes: what a contract sees of it, and what each of its writes leaves.
use Rattle.std.specs.Prelude.{◌≡◌, ℕ, ◌+◌, ◌*◌, ◌/◌, List, true, false, length, replicate}
use Rattle.std.specs.Prelude.{Option, Some, None, slice_range, Result, IsOk, IsErrOf}
use Rattle.std.specs.Borrow.{MutBor}
use Rattle.flash_model.specs.declared.error.FlashError.{FlashError}
use Rattle.flash_model.specs.declared.error.FlashError.TheVariants.{Cut, Off}
use Rattle.flash_model.specs.Calls.{Programs}
use Rattle.flash_model.specs.Chip.{Chip}
use Rattle.flash_model.specs.Memory.{new_chip, one_more, with_counts}
use Rattle.flash_model.specs.Torn.{replaced, with_pattern}
use Rattle.flash_model.specs.Written.{IsWrite}
use Rattle.slice_flash.specs.Rows.{fixed_by, left_after, torn_bytes}
use Rattle.slice_flash.specs.declared.flash.SliceFlash.{SliceFlash}
use Rattle.slice_flash.specs.declared.table.ArmedCut.{ArmedCut}
use Rattle.slice_flash.specs.declared.table.Left.{Left}

-- A flash over borrowed bytes: its chip, and the rows of the writes that are to be interrupted.
pub record Slice : Type 0 where
  pub chip : Chip
  pub table : List ArmedCut

-- The chip of the flash. The name of the borrow says that the flash is over the same bytes for as
-- long as it lasts. Each cut has a row in the table, so there are no faults.
abbrev pub chip_of : {L : Type 0} → SliceFlash L → Chip
chip_of flash = record (with_counts flash.is_on flash.cuts.amount flash.erases.amount flash.writes
    (new_chip flash.sector_size flash.sectors flash.bytes.now)) {
      fixed = fixed_by flash.table.now flash.origin.first flash.bytes.ghost_name;
    }

-- The chip of the flash, with the table.
abbrev pub slice_of : {L : Type 0} → SliceFlash L → Slice
slice_of flash = record { chip = chip_of flash; table = flash.table.now }

-- A new flash over these bytes, in sectors of this size.
abbrev pub new_slice : ℕ → MutBor (List ℕ) → List ArmedCut → Slice
new_slice size borrowed table = record {
  chip = record (new_chip size (length borrowed.now / size) borrowed.now) {
    fixed = fixed_by table borrowed.now borrowed.ghost_name;
  };
  table = table;
}

-- What the next write leaves if it is to be interrupted.
abbrev pub next_left : Slice → Option Left
next_left slice = left_after slice.chip.writes slice.table

-- The flash after a completed write of these bytes at this address.
abbrev pub done : ℕ → List ℕ → Slice → Slice
done at range old = record old {
  chip = record (old.chip) {
    bytes = replaced at range old.chip.bytes;
    writes = one_more old.chip.writes;
  };
}

-- The flash after a completed erase, which left these bytes at this address.
abbrev pub erased : ℕ → List ℕ → Slice → Slice
erased at range old =
    let after = done at range old in
    record after { chip = record (after.chip) { erases = old.chip.erases + 1 } }

-- The flash after an interrupted write of these bytes at this address.
abbrev pub torn : ℕ → List ℕ → Left → Slice → Slice
torn at range left old =
    let before = slice_range old.chip.bytes at (at + length range) in
    record old {
      chip = record (old.chip) {
        bytes = replaced at (torn_bytes left before range) old.chip.bytes;
        is_on = false;
        cuts = old.chip.cuts + 1;
        writes = one_more old.chip.writes;
      };
    }

-- A write of these bytes ends as the table says. If the flash is off, the write is refused and not
-- counted. If the table has no row for the write, it is done. Otherwise it is interrupted and
-- leaves what the row says.
pub record Writes (result : Result Unit FlashError) (at : ℕ) (range : List ℕ) (done old new : Slice)
    : Type 0 where
  pub off : old.chip.is_on ≡ false → IsErrOf result Off × (new ≡ old)
  pub on : old.chip.is_on ≡ true → next_left old ≡ None → IsOk result × (new ≡ done)
  pub cut : (left : Left) → old.chip.is_on ≡ true → next_left old ≡ Some left
      → IsErrOf result Cut × (new ≡ torn at range left old)

-- A program of these bytes ends as the table says.
abbrev pub ProgramsByTable : ℕ → List ℕ → Slice → Slice → Result Unit FlashError → Type 0
ProgramsByTable at range old new result = Writes result at range (done at range old) old new

-- An erase of a sector ends as the table says.
abbrev pub ErasesByTable : ℕ → Slice → Slice → Result Unit FlashError → Type 0
ErasesByTable sector old new result =
    let at = sector * old.chip.sector_size in
    let blank = replicate old.chip.sector_size 0xff in
    Writes result at blank (erased at blank old) old new

-- A driver accepts a write of the n bytes that a pattern gives from an address on.
abbrev pub CanPut : ℕ → ℕ → List ℕ → Chip → Type 0
CanPut at n pattern chip = (range : List ℕ) → length range ≡ n
    → range ≡ with_pattern pattern (slice_range chip.bytes at (at + n))
    → IsWrite chip.sector_size (record { at = at; done = range }) chip.bytes

-- A call repeats a pattern over n bytes, as a write of the bytes that result there.
pub record Puts (at n : ℕ) (pattern : List ℕ) (old new : Slice) (result : Result Unit FlashError)
    : Type 0 where
  pub chip : (range : List ℕ) → length range ≡ n
      → range ≡ with_pattern pattern (slice_range old.chip.bytes at (at + n))
      → Programs at range old.chip new.chip result
  pub slice : (range : List ℕ) → length range ≡ n
      → range ≡ with_pattern pattern (slice_range old.chip.bytes at (at + n))
      → Writes result at range (done at range old) old new
