-- A flash over bytes that are only read: what a contract sees of it, and how it refuses a write.
use Rattle.std.specs.Prelude.{◌≡◌, ℕ, ◌+◌, ◌/◌, List, true, false, length, Result, Err}
use Rattle.flash_model.specs.declared.error.FlashError.{FlashError}
use Rattle.flash_model.specs.declared.error.FlashError.TheVariants.{Cut, Off}
use Rattle.flash_model.specs.Chip.{Chip}
use Rattle.flash_model.specs.Memory.{new_chip}
use Rattle.slice_flash.specs.declared.read_only.ReadOnlyFlash.{ReadOnlyFlash}

-- The chip of the flash. No write is armed or counted, so each cut is a fault.
abbrev pub chip_of : {L : Type 0} → ReadOnlyFlash L → Chip
chip_of flash = record (new_chip flash.sector_size flash.sectors flash.bytes.now) {
  is_on = flash.is_on;
  cuts = flash.cuts.amount;
  faults = flash.cuts.amount;
}

-- The chip of a new flash over these bytes, in sectors of this size.
abbrev pub new_read_only : ℕ → List ℕ → Chip
new_read_only size all = new_chip size (length all / size) all

-- A write is refused. The flash was off, and nothing changes; or power fails, and no byte changes.
pub data RefusesWrite (old new : Chip) (result : Result Unit FlashError) : Type 0 where
  WasOff : old.is_on ≡ false → result ≡ Err Off → new ≡ old → RefusesWrite old new result
  Fails : old.is_on ≡ true → result ≡ Err Cut
      → new ≡ record old { is_on = false; cuts = old.cuts + 1; faults = old.faults + 1 }
      → RefusesWrite old new result
