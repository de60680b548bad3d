-- A flash as contracts see it, and what its calls do to it, by address.
use Rattle.std.specs.Prelude.{◌≡◌, ℕ, zero, suc, ◌+◌, ◌*◌, ◌<◌, ◌≤◌, ◌==◌, Bool, false}
use Rattle.std.specs.Prelude.{List, [], length, map}
use Rattle.std.specs.Prelude.{slice_index, if◌then◌else◌, Result, OnOk, IsErrOf}
use Rattle.std.specs.List.{list_any}
use Rattle.flash_model.specs.declared.error.FlashError.{FlashError}
use Rattle.flash_model.specs.declared.error.FlashError.TheVariants.{Cut, Off}
use Rattle.flash_model.specs.declared.torn.Armed.{Armed}
use Rattle.flash_model.specs.Torn.{Cutting, cutting_of}

-- What no call of a driver changes of a flash, besides its sectors.
pub record Fixed : Type 0 where
  -- The writes that a simulation is to interrupt; a real part has none.
  pub armed : List Armed
  -- The numbers of the armed writes, counted from 1.
  pub numbers : List ℕ
  -- What the power cut in each armed write leaves of its range.
  pub cuttings : List Cutting
  -- The bytes that the flash had when it was made.
  pub first : List ℕ
  -- The name of the borrow of its bytes if they are borrowed, else 0.
  pub name : ℕ
  -- The name of the borrow of its journal if it has one, else 0.
  pub journal : ℕ
  -- The bytes that its journal had when the flash was made, none if it has no journal.
  pub journal_first : List ℕ

-- A flash without armed writes and without a journal, made of no bytes, with bytes of its own.
abbrev pub unarmed : Fixed
unarmed = record {
  armed = [];
  numbers = [];
  cuttings = [];
  first = [];
  name = 0;
  journal = 0;
  journal_first = [];
}

-- The numbers of armed writes.
abbrev pub numbers_of : List Armed → List ℕ
numbers_of armed = map (λ write. write.at) armed

-- What is fixed of a flash with these armed writes.
abbrev pub armed_with : List Armed → Fixed → Fixed
armed_with armed fixed = record fixed {
  armed = armed;
  numbers = numbers_of armed;
  cuttings = map cutting_of armed;
}

-- A flash: sectors of `sector_size` bytes, its bytes, whether it has power, how many writes were
-- interrupted, erases completed, programs and erases taken (up to 2 ^ 64 - 1), and cuts not armed;
-- and how many bytes of a journal its writes asked for, 0 if it has no journal.
pub record Chip : Type 0 where
  pub sector_size : ℕ
  pub sectors : ℕ
  pub bytes : List ℕ
  pub is_on : Bool
  pub cuts : ℕ
  pub erases : ℕ
  pub writes : ℕ
  pub faults : ℕ
  pub journaled : ℕ
  pub fixed : Fixed

-- How many of the numbers from 1 to n are among these.
abbrev pub reached : List ℕ → ℕ → ℕ
reached numbers zero = 0
reached numbers (suc n) = if list_any (λ number. number == suc n) numbers
    then reached numbers n + 1 else reached numbers n

-- A flash had one power cut for each armed write that it took, and beside those only its faults.
abbrev pub IsCutAsArmed : Chip → Type 0
IsCutAsArmed chip = chip.cuts ≡ reached chip.fixed.numbers chip.writes + chip.faults

-- The size of a flash in bytes.
abbrev pub size_of : Chip → ℕ
size_of chip = chip.sectors * chip.sector_size

-- A flash has these bytes from an address on.
pub record Reads (chip : Chip) (at : ℕ) (bytes : List ℕ) : Type 0 where
  pub each : (k i : ℕ) → k ≡ at + i → i < length bytes
      → slice_index chip.bytes k ≡ slice_index bytes i

-- The n bytes from an address on are erased: each is 0xFF.
pub record IsErased (chip : Chip) (at n : ℕ) : Type 0 where
  pub each : (k : ℕ) → at ≤ k → k < at + n → slice_index chip.bytes k ≡ 0xff

-- Only the n bytes from an address on, the power and the counts may have changed.
pub record SameOutside (at n : ℕ) (old new : Chip) : Type 0 where
  pub sector_size : new.sector_size ≡ old.sector_size
  pub sectors : new.sectors ≡ old.sectors
  pub fixed : new.fixed ≡ old.fixed
  pub size : length new.bytes ≡ length old.bytes
  pub before : (k : ℕ) → k < at → slice_index new.bytes k ≡ slice_index old.bytes k
  pub after : (k : ℕ) → at + n ≤ k → slice_index new.bytes k ≡ slice_index old.bytes k

-- The n bytes from `to` on are those that were stored from `from` on.
pub record IsCopy (from to n : ℕ) (old new : Chip) : Type 0 where
  pub each : (k j : ℕ) → to ≤ k → k < to + n → k + from ≡ j + to
      → slice_index new.bytes k ≡ slice_index old.bytes j

-- The bytes of one sector are unchanged.
pub record SameSector (sector : ℕ) (old new : Chip) : Type 0 where
  pub each : (k o : ℕ) → k ≡ sector * old.sector_size + o → o < old.sector_size
      → slice_index new.bytes k ≡ slice_index old.bytes k

-- One sector has these contents, by offset.
pub record SectorIs (chip : Chip) (sector : ℕ) (contents : ℕ → ℕ) : Type 0 where
  pub each : (k o : ℕ) → k ≡ sector * chip.sector_size + o → o < chip.sector_size
      → slice_index chip.bytes k ≡ contents o

-- No write was interrupted, and the power is unchanged.
pub record IsUncut (old new : Chip) : Type 0 where
  pub on : new.is_on ≡ old.is_on
  pub cuts : new.cuts ≡ old.cuts

-- One write was interrupted, the last one: the flash is off.
pub record IsCut (old new : Chip) : Type 0 where
  pub cuts : new.cuts ≡ old.cuts + 1
  pub off : new.is_on ≡ false

-- How a call on a flash ends: without a power cut, with one, or not at all since it was off.
pub record Ends {T : Type 0} (result : Result T FlashError) (old new : Chip) : Type 0 where
  -- A flash that is off is unchanged.
  pub asleep : old.is_on ≡ false → new ≡ old
  pub uncut : OnOk result (IsUncut old new)
  pub cut : IsErrOf result Cut → IsCut old new
  pub off : IsErrOf result Off → old.is_on ≡ false
