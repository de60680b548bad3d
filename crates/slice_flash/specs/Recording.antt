-- A flash that records its writes: what a contract sees of it, and what each of its writes leaves.
use Rattle.std.specs.Prelude.{◌≡◌, ℕ, ◌+◌, ◌<◌, ◌≤◌, List, true, false, length, drop, take}
use Rattle.std.specs.Prelude.{Result, IsOk, IsErrOf}
use Rattle.flash_model.specs.declared.error.FlashError.{FlashError}
use Rattle.flash_model.specs.declared.error.FlashError.TheVariants.{Cut, Off}
use Rattle.flash_model.specs.Chip.{Chip}
use Rattle.flash_model.specs.Torn.{replaced}
use Rattle.slice_flash.specs.Steps.{IsRecordedBy, IsTooShort, Step, at_of, range_of, spelled}

-- A flash with a journal: its chip, how many bytes of the journal are used, and the bytes of the
-- complete journal.
pub record Recording : Type 0 where
  pub chip : Chip
  pub used : ℕ
  pub journal : List ℕ

-- What a journal says of its flash.
pub record IsKept (recording : Recording) : Type 0 where
  -- The used bytes record exactly the writes that the flash counted. These writes make its bytes of
  -- those that it had when it was made.
  pub recorded : ∥ IsRecordedBy recording.chip.sector_size recording.chip.fixed.first
      recording.chip.bytes (take recording.used recording.journal) recording.chip.writes ∥₁
  -- The bytes after them are as they were when the flash was made.
  pub fits : recording.used ≤ length recording.journal
  pub size : length recording.journal ≡ length recording.chip.fixed.journal_first
  pub rest : drop recording.used recording.journal
      ≡ drop recording.used recording.chip.fixed.journal_first
  -- If no write was refused, the used bytes are those that the writes asked for.
  pub all : recording.chip.faults ≡ 0 → recording.chip.journaled ≡ recording.used
  -- If a write was refused, the journal is shorter than what the writes asked for.
  pub short : 0 < recording.chip.faults → length recording.journal < recording.chip.journaled
  -- If the flash is off, its last write was refused.
  pub off : recording.chip.is_on ≡ false → ∥ IsTooShort recording.chip.sector_size
      recording.chip.bytes (length recording.journal) recording.used ∥₁

-- The flash after this write, which was recorded and done.
abbrev pub recorded : Step → Recording → Recording
recorded step old = record {
  chip = record (old.chip) {
    bytes = replaced (at_of step) (range_of step) old.chip.bytes;
    writes = old.chip.writes + 1;
    journaled = old.chip.journaled + length (spelled step);
  };
  used = old.used + length (spelled step);
  journal = replaced old.used (spelled step) old.journal;
}

-- The flash after an erase, which was recorded, done and counted.
abbrev pub erased : Step → Recording → Recording
erased step old =
    let after = recorded step old in
    record after { chip = record (after.chip) { erases = old.chip.erases + 1 } }

-- The flash after a write was refused that asked for this number of bytes of the journal.
abbrev pub refused : ℕ → Recording → Recording
refused room old = record old {
  chip = record (old.chip) {
    is_on = false;
    cuts = old.chip.cuts + 1;
    faults = old.chip.faults + 1;
    journaled = old.chip.journaled + room;
  };
}

-- A write of a flash with a journal. If the flash is off, nothing changes. If the write fits in the
-- journal, it is recorded and done. Otherwise the flash goes off, and no byte changes.
pub record Records (result : Result Unit FlashError) (step : Step) (done old new : Recording)
    : Type 0 where
  pub off : old.chip.is_on ≡ false → IsErrOf result Off × (new ≡ old)
  pub fits : old.chip.is_on ≡ true → old.used + length (spelled step) ≤ length old.journal
      → IsOk result × (new ≡ done)
  pub full : old.chip.is_on ≡ true → length old.journal < old.used + length (spelled step)
      → IsErrOf result Cut × (new ≡ refused (length (spelled step)) old)
