-- A flash over bytes that are only read and a journal: what a contract sees of it.
use Rattle.std.specs.Prelude.{◌≡◌, ℕ, ◌+◌, ◌/◌, List, length}
use Rattle.std.specs.Borrow.{MutBor}
use Rattle.flash_model.specs.Chip.{Chip}
use Rattle.flash_model.specs.Memory.{new_chip, with_counts}
use Rattle.slice_flash.specs.Recording.{Recording}
use Rattle.slice_flash.specs.Overlay.{replayed}
use Rattle.slice_flash.specs.Steps.{fixed_over}
use Rattle.slice_flash.specs.declared.overlay.OverlayFlash.{OverlayFlash}

-- The bytes of the flash: the base, with the writes of the journal performed one by one.
abbrev pub bytes_of : {L : Type 0} → OverlayFlash L → List ℕ
bytes_of flash = replayed flash.base.now flash.journal.now flash.writes

-- The chip of the flash. No write is armed, so each cut is a fault.
abbrev pub chip_of : {L : Type 0} → OverlayFlash L → Chip
chip_of flash = record (with_counts flash.is_on flash.cuts.amount flash.erases.amount flash.writes
    (new_chip flash.sector_size flash.sectors (bytes_of flash))) {
      faults = flash.cuts.amount;
      journaled = flash.used + flash.refused.amount;
      fixed = fixed_over flash.base.now 0 flash.journal_origin.first flash.journal.ghost_name;
    }

-- The chip of the flash, with the journal.
abbrev pub recording_of : {L : Type 0} → OverlayFlash L → Recording
recording_of flash = record {
  chip = chip_of flash;
  used = flash.used;
  journal = flash.journal.now;
}

-- A new flash over these bytes, in sectors of this size, with this journal.
abbrev pub new_recording : ℕ → List ℕ → MutBor (List ℕ) → Recording
new_recording size base journal = record {
  chip = record (new_chip size (length base / size) base) {
    fixed = fixed_over base 0 journal.now journal.ghost_name;
  };
  used = 0;
  journal = journal.now;
}

-- The bytes of the flash are those that it was made of, with the writes of the journal performed.
abbrev pub ShowsJournal : Recording → Type 0
ShowsJournal recording =
    recording.chip.bytes ≡ replayed recording.chip.fixed.first recording.journal recording.chip.writes
