-- What each call on a flash leaves: one record for each kind of call.
use Rattle.std.specs.Prelude.{◌≡◌, ℕ, ◌+◌, ◌*◌, ◌%◌, ◌<◌, ◌≤◌, ◌↔◌, Bool, true, false, List, length}
use Rattle.std.specs.Prelude.{Result, IfOk, IsErrOf, IsOk, IsTrue, OnErr, OnOk}
use Rattle.flash_model.specs.declared.error.FlashError.{FlashError}
use Rattle.flash_model.specs.declared.error.FlashError.TheVariants.{Off}
use Rattle.flash_model.specs.Chip.{Chip, size_of, Ends, IsErased, Reads, SameOutside}
use Rattle.flash_model.specs.Units.{IsSet}

-- A call reads these bytes from an address on.
pub record ReadsBytes (at : ℕ) (bytes : List ℕ) (old new : Chip) {T : Type 0}
    (result : Result T FlashError) : Type 0 where
  -- Nothing changes.
  pub same : new ≡ old
  -- On success the flash has these bytes there.
  pub ok : OnOk result (Reads old at bytes)
  -- The call succeeds only if the flash was on.
  pub on : OnOk result (old.is_on ≡ true)
  pub erases : OnOk result (new.erases ≡ old.erases)
  pub ends : Ends result old new

-- n bytes can be programmed from an address on: they are whole units, at least one, that lie in the
-- flash and are erased.
pub record CanProgram (at n : ℕ) (chip : Chip) : Type 0 where
  pub inside : at + n ≤ size_of chip
  pub erased : IsErased chip at n
  pub place : at % 8 ≡ 0
  pub units : n % 8 ≡ 0
  pub some : 8 ≤ n

-- A call programs these bytes from an address on.
pub record Programs (at : ℕ) (bytes : List ℕ) (old new : Chip) {T : Type 0}
    (result : Result T FlashError) : Type 0 where
  -- No other byte changes.
  pub outside : SameOutside at (length bytes) old new
  -- On success the flash has these bytes there.
  pub ok : OnOk result (Reads new at bytes)
  -- The call succeeds only if the flash was on.
  pub on : OnOk result (old.is_on ≡ true)
  -- No sector is erased.
  pub erases : new.erases ≡ old.erases
  -- It asks a journal for 12 bytes and its own, if the flash has one.
  pub journal : new.journaled ≤ old.journaled + (12 + length bytes)
  pub ends : Ends result old new

-- A call erases a sector.
pub record Erases (sector : ℕ) (old new : Chip) {T : Type 0} (result : Result T FlashError)
    : Type 0 where
  -- No other sector changes.
  pub outside : SameOutside (sector * old.sector_size) old.sector_size old new
  -- On success this sector is erased.
  pub ok : OnOk result (IsErased new (sector * old.sector_size) old.sector_size)
  -- The call succeeds only if the flash was on.
  pub on : OnOk result (old.is_on ≡ true)
  -- A successful erase is counted.
  pub erases : OnOk result (new.erases ≡ old.erases + 1)
  -- A failed erase isn't counted.
  pub uncounted : OnErr result (new.erases ≡ old.erases)
  -- It asks a journal for 12 bytes, if the flash has one.
  pub journal : new.journaled ≤ old.journaled + 12
  pub ends : Ends result old new

-- A call reads n bytes from an address on, and returns whether they are erased.
pub record TellsPieceErased (at n : ℕ) (old new : Chip) (result : Result Bool FlashError)
    : Type 0 where
  -- Nothing changes.
  pub same : new ≡ old
  -- The result is exact.
  pub ok : IfOk result (λ yes. IsTrue yes ↔ IsErased old at n)
  -- The call succeeds only if the flash was on.
  pub on : OnOk result (old.is_on ≡ true)
  pub ends : Ends result old new

-- A call returns whether n bytes from an address on are erased.
pub record TellsErased (at n : ℕ) (old new : Chip) (result : Result Bool FlashError)
    : Type 0 where
  -- Nothing changes.
  pub same : new ≡ old
  -- The result is exact.
  pub ok : IfOk result (λ yes. IsTrue yes ↔ IsErased old at n)
  -- If the flash is on, the call succeeds.
  pub answers : old.is_on ≡ true → IsOk result
  -- If the flash is off, the call returns `Off`, except for a range of no bytes.
  pub refuses : old.is_on ≡ false → 0 < n → IsErrOf result Off
  -- No sector is erased.
  pub erases : new.erases ≡ old.erases
  -- Nothing is written.
  pub journal : new.journaled ≡ old.journaled
  pub ends : Ends result old new

-- A call returns whether the unit at an address is erased.
pub record TellsUnitErased (at : ℕ) (old new : Chip) (result : Result Bool FlashError)
    : Type 0 where
  -- Nothing changes.
  pub same : new ≡ old
  -- The result is exact.
  pub ok : IfOk result (λ yes. IsTrue yes ↔ IsErased old at 8)
  -- If the flash is on, the call succeeds.
  pub answers : old.is_on ≡ true → IsOk result
  -- If the flash is off, the call returns `Off`.
  pub refuses : old.is_on ≡ false → IsErrOf result Off
  -- No sector is erased.
  pub erases : new.erases ≡ old.erases
  -- Nothing is written.
  pub journal : new.journaled ≡ old.journaled
  pub ends : Ends result old new

-- A call sets the unit at an address, by programming these bytes.
pub record SetsUnit (at : ℕ) (bytes : List ℕ) (old new : Chip) {T : Type 0}
    (result : Result T FlashError) : Type 0 where
  -- No other byte changes.
  pub outside : SameOutside at 8 old new
  -- On success the unit is set.
  pub ok : OnOk result (IsSet new at)
  -- On success the unit holds these bytes.
  pub flag : OnOk result (Reads new at bytes)
  -- The call succeeds only if the flash was on.
  pub on : OnOk result (old.is_on ≡ true)
  -- No sector is erased.
  pub erases : new.erases ≡ old.erases
  -- It asks a journal for at most 20 bytes.
  pub journal : new.journaled ≤ old.journaled + 20
  pub ends : Ends result old new
