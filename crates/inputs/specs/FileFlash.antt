-- A flash over a file: what contracts see of it, and the state after a write.
use Rattle.std.specs.Prelude.{◌≡◌, ◌⊎◌, ◌↔◌, ℕ, ◌+◌, ◌*◌, true, false, Bool, List, replicate}
use Rattle.std.specs.Prelude.{None, Some, Result, IsOk, IsErrOf, is_some}
use Rattle.flash_model.specs.declared.error.FlashError.{FlashError}
use Rattle.flash_model.specs.declared.error.FlashError.TheVariants.{Cut, Off}
use Rattle.flash_model.specs.declared.torn.Torn.{Torn}
use Rattle.flash_model.specs.Chip.{Chip}
use Rattle.flash_model.specs.Memory.{chip_of as memory_of, erased, next_torn, programmed, torn}
use Rattle.inputs.specs.declared.file_flash.FileFlash.{FileFlash}

-- A flash over a file. `chip` is the flash itself, `memory` is the flash in memory that has its
-- bytes, and `has_failed` says whether a write of the file failed.
pub record OverFile : Type 0 where
  pub chip : Chip
  pub memory : Chip
  pub has_failed : Bool

-- The flash itself. Its sectors, bytes and writes are those of the flash in memory. It has its own
-- power and counts its own erases. Its cuts are those of the flash in memory and the faults, which
-- the flash in memory doesn't count.
abbrev pub chip_of : {F L M : Type 0} {g : _} → FileFlash F L M g → Chip
chip_of flash = record (memory_of flash.memory) {
  is_on = flash.is_on;
  cuts = (memory_of flash.memory).cuts + flash.faults.amount;
  erases = flash.erases.amount;
  faults = flash.faults.amount;
}

-- The flash together with the one in memory.
abbrev pub over_file : {F L M : Type 0} {g : _} → FileFlash F L M g → OverFile
over_file flash = record {
  chip = chip_of flash;
  memory = memory_of flash.memory;
  has_failed = is_some flash.failure;
}

-- The file below the flash.
abbrev pub file_of : {F L M : Type 0} {g : _} → FileFlash F L M g → F
file_of flash = flash.file

-- A new flash over a file, made of a flash in memory. It has counted no erases.
abbrev pub new_over : Chip → OverFile
new_over below = record {
  chip = record below { erases = 0 };
  memory = below;
  has_failed = false;
}

-- The state after a cut that the flash in memory doesn't count.
abbrev pub cut_short : OverFile → OverFile
cut_short old = record old {
  chip = record (old.chip) {
    is_on = false;
    cuts = old.chip.cuts + 1;
    faults = old.chip.faults + 1;
  };
}

-- The state after power returned. No byte is changed.
abbrev pub restarted : OverFile → OverFile
restarted old = record old {
  chip = record (old.chip) { is_on = true };
  memory = record (old.memory) { is_on = true };
}

-- The effect of a write of these bytes to a flash over a file. A flash that is off refuses it. If
-- the file failed before, the write is cut and nothing changes. Otherwise the flash in memory is
-- written, or cut as it was armed. The result is `Ok` exactly if it wasn't cut and the file didn't
-- fail.
pub record WritesThrough (result : Result Unit FlashError) (at : ℕ) (range : List ℕ) (done : Chip)
    (old new : OverFile) : Type 0 where
  pub off : old.chip.is_on ≡ false → IsErrOf result Off × (new ≡ old)
  pub failed : old.chip.is_on ≡ true → old.has_failed ≡ true
      → IsErrOf result Cut × (new ≡ cut_short old)
  pub on : old.chip.is_on ≡ true → old.has_failed ≡ false → next_torn old.memory ≡ None
      → (new.memory ≡ done) × (IsOk result ↔ (new.has_failed ≡ false))
  pub armed : (left : Torn) → old.chip.is_on ≡ true → old.has_failed ≡ false
      → next_torn old.memory ≡ Some left
      → (new.memory ≡ torn at range left old.memory) × IsErrOf result Cut

-- A flash that is off, or whose file failed before, doesn't write the file.
abbrev pub LeavesFile : {F : Type 0} → OverFile → F → F → Type 0
LeavesFile flash old new = ((flash.chip.is_on ≡ false) ⊎ (flash.has_failed ≡ true)) → new ≡ old

-- The effect of programming these bytes.
abbrev pub ProgramsThrough : ℕ → List ℕ → OverFile → OverFile → Result Unit FlashError → Type 0
ProgramsThrough at range old new result =
    WritesThrough result at range (programmed at range old.memory) old new

-- The effect of erasing a sector.
abbrev pub ErasesThrough : ℕ → OverFile → OverFile → Result Unit FlashError → Type 0
ErasesThrough sector old new result =
    let at = sector * old.chip.sector_size in
    let blank = replicate old.chip.sector_size 0xff in
    WritesThrough result at blank (erased at blank old.memory) old new
