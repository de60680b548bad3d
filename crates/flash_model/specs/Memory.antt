-- A flash in memory: what a contract sees of it, and what each of its writes leaves.
use Rattle.std.specs.Prelude.{◌≡◌, ℕ, ◌+◌, ◌-◌, ◌*◌, ◌^◌, ◌<◌, ◌≤◌, Bool, true, false, min}
use Rattle.std.specs.Prelude.{List, [], ◌++◌, ◌∷◌, replicate}
use Rattle.std.specs.Prelude.{Option, Some, None, Result, IsOk, IsErrOf, OnErr, OnOk}
use Rattle.flash_model.specs.declared.error.FlashError.{FlashError}
use Rattle.flash_model.specs.declared.error.FlashError.TheVariants.{Cut, Off}
use Rattle.flash_model.specs.declared.memory.MemFlash.{MemFlash}
use Rattle.flash_model.specs.declared.torn.Armed.{Armed}
use Rattle.flash_model.specs.declared.torn.Torn.{Torn}
use Rattle.flash_model.specs.Chip.{Chip, unarmed}
pub use Rattle.flash_model.specs.Chip.{armed_with}
use Rattle.flash_model.specs.Torn.{replaced, torn_at, torn_for}

-- The chip of a new flash with these bytes. It has power, its counts are 0, and no write is armed.
abbrev pub new_chip : ℕ → ℕ → List ℕ → Chip
new_chip size count all = record {
  sector_size = size;
  sectors = count;
  bytes = all;
  is_on = true;
  cuts = 0;
  erases = 0;
  writes = 0;
  faults = 0;
  journaled = 0;
  fixed = record unarmed { first = all };
}

-- The chip with or without power, and with these counts of cuts, completed erases and writes.
abbrev pub with_counts : Bool → ℕ → ℕ → ℕ → Chip → Chip
with_counts on cuts erases writes chip = record chip {
  is_on = on;
  cuts = cuts;
  erases = erases;
  writes = writes;
}

-- The chip of a flash in memory. Its armed writes have the order in which they were armed. Each cut
-- is one of them, so there are no faults.
abbrev pub chip_of : {L : Type 0} → MemFlash L → Chip
chip_of flash = record (with_counts flash.is_on flash.cuts.amount flash.erases.amount flash.writes
    (new_chip flash.sector_size flash.sectors flash.bytes.items)) {
      fixed = armed_with flash.armed.items (record unarmed { first = flash.origin.first });
    }

-- The chip with exactly these armed writes.
abbrev pub with_armed : Chip → List Armed → Chip
with_armed chip armed = record chip { fixed = armed_with armed chip.fixed }

-- The next number, up to the greatest that 64 bits hold.
abbrev pub one_more : ℕ → ℕ
one_more n = min (n + 1) (2 ^ 64 - 1)

-- What the next write leaves, if it is armed.
abbrev pub next_torn : Chip → Option Torn
next_torn chip = torn_for (chip.writes + 1) chip.fixed.armed

-- The chip after a completed program of these bytes at this address.
abbrev pub programmed : ℕ → List ℕ → Chip → Chip
programmed at range old = record old {
  bytes = replaced at range old.bytes;
  writes = one_more old.writes;
}

-- The chip after a completed erase of the sector that begins at this address. These are its new
-- bytes.
abbrev pub erased : ℕ → List ℕ → Chip → Chip
erased at range old = record old {
  bytes = replaced at range old.bytes;
  erases = old.erases + 1;
  writes = one_more old.writes;
}

-- The chip after an interrupted write of these bytes at this address.
abbrev pub torn : ℕ → List ℕ → Torn → Chip → Chip
torn at range left old = record old {
  bytes = torn_at at range left old.bytes;
  is_on = false;
  cuts = old.cuts + 1;
  writes = one_more old.writes;
}

-- A write of these bytes ends as the flash was armed. If the flash is off, the write is refused and
-- not counted. If the write isn't armed, it is done. If it is armed, it is interrupted and leaves
-- what was armed.
pub record Writes (result : Result Unit FlashError) (at : ℕ) (range : List ℕ)
    (done old new : Chip) : Type 0 where
  pub off : old.is_on ≡ false → IsErrOf result Off × (new ≡ old)
  pub on : old.is_on ≡ true → next_torn old ≡ None → IsOk result × (new ≡ done)
  pub armed : (left : Torn) → old.is_on ≡ true → next_torn old ≡ Some left
      → IsErrOf result Cut × (new ≡ torn at range left old)

-- A program of these bytes ends as the flash was armed.
abbrev pub ProgramsAsArmed : ℕ → List ℕ → Chip → Chip → Result Unit FlashError → Type 0
ProgramsAsArmed at range old new result =
    Writes result at range (programmed at range old) old new

-- An erase of a sector ends as the flash was armed.
abbrev pub ErasesAsArmed : ℕ → Chip → Chip → Result Unit FlashError → Type 0
ErasesAsArmed sector old new result =
    let at = sector * old.sector_size in
    let blank = replicate old.sector_size 0xff in
    Writes result at blank (erased at blank old) old new

-- A call arms write k, and says what the write leaves.
pub record Arms (k : ℕ) (left : Torn) (old new : Chip) {T E : Type 0} (result : Result T E)
    : Type 0 where
  -- Only the armed writes change.
  pub chip : new ≡ with_armed old new.fixed.armed
  -- On success the write is armed after the others, if it is yet to come. There is no write 0.
  pub armed : OnOk result ((1 ≤ k → old.writes < k)
      → new.fixed.armed ≡ old.fixed.armed ++ record { at = k; torn = left } ∷ [])
  -- A write that is over isn't armed.
  pub over : 1 ≤ k → k ≤ old.writes → new.fixed.armed ≡ old.fixed.armed
  -- If the call fails, no write is armed.
  pub same : OnErr result (new.fixed.armed ≡ old.fixed.armed)
