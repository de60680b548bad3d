-- What each call that copies does: one record for each call.
use Rattle.std.specs.Prelude.{◌≡◌, ◌≢◌, ℕ, ◌+◌, ◌*◌, ◌/◌, ◌%◌, ◌<◌, ◌≤◌, ◌^◌, Result, OnOk}
use Rattle.flash_model.specs.declared.error.FlashError.{FlashError}
use Rattle.flash_model.specs.Chip.{Chip, size_of, Ends, IsCopy, IsErased, SameOutside}

-- A number of bytes can be copied from one address to another. Both ranges are inside the flash.
-- The second range is erased and consists of whole units.
pub record CanCopy (from to n : ℕ) (chip : Chip) : Type 0 where
  pub from_inside : from + n ≤ size_of chip
  pub to_inside : to + n ≤ size_of chip
  pub erased : IsErased chip to n
  pub place : to % 8 ≡ 0
  pub units : n % 8 ≡ 0

-- How many bytes a copy of n bytes asks a journal for at most: its own, and 12 for each piece of
-- 256 bytes.
abbrev pub journal_of_copy : ℕ → ℕ
journal_of_copy n = n + 12 * ((n + 255) / 256)

-- A call copies a number of bytes from one address to another.
pub record Copies (from to n : ℕ) (old new : Chip) {T : Type 0} (result : Result T FlashError)
    : Type 0 where
  -- Only the target range is written.
  pub outside : SameOutside to n old new
  -- If the call succeeds, the target range holds the bytes.
  pub ok : OnOk result (IsCopy from to n old new)
  -- If the call succeeds, no sector is erased.
  pub erases : OnOk result (new.erases ≡ old.erases)
  -- It asks a journal for no more than a copy of these bytes.
  pub journal : new.journaled ≤ old.journaled + journal_of_copy n
  pub ends : Ends result old new

-- One sector can be copied to another: the flash has both, and they consist of whole units.
pub record CanCopySector (from to : ℕ) (chip : Chip) : Type 0 where
  pub from_inside : from < chip.sectors
  pub to_inside : to < chip.sectors
  pub apart : from ≢ to
  pub addressed : size_of chip < 2 ^ 32
  pub units : 8 * (chip.sector_size / 8) ≡ chip.sector_size

-- A call erases a sector, and copies another one to it.
pub record CopiesSector (from to : ℕ) (old new : Chip) {T : Type 0} (result : Result T FlashError)
    : Type 0 where
  -- No other sector is written.
  pub outside : SameOutside (to * old.sector_size) old.sector_size old new
  -- If the call succeeds, the sector holds the bytes of the other one.
  pub ok : OnOk result
      (IsCopy (from * old.sector_size) (to * old.sector_size) old.sector_size old new)
  -- If the call succeeds, one sector is erased.
  pub erases : OnOk result (new.erases ≡ old.erases + 1)
  -- It asks a journal for 12 bytes to erase, and for no more than a copy of a sector.
  pub journal : new.journaled ≤ old.journaled + (12 + journal_of_copy old.sector_size)
  pub ends : Ends result old new
