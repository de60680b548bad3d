-- What each call does that writes a record: one record for each call.
use Rattle.std.specs.Prelude.{◌≡◌, ◌⊎◌, ℕ, ◌+◌, ◌*◌, ◌<◌, ◌≤◌, true, false, List, Some}
use Rattle.std.specs.Prelude.{Result, IsErrOf, OnOk, OnErr, if◌then◌else◌}
use Rattle.flash_model.specs.declared.error.FlashError.{FlashError}
use Rattle.flash_model.specs.declared.error.FlashError.TheVariants.{Off}
use Rattle.flash_model.specs.Chip.{Chip, Ends, IsErased, SameOutside}
use Rattle.sector_map.specs.declared.layout.SectorMap.{SectorMap}
use Rattle.sector_map.specs.Map.{IsLaidOut, Keeps}
use Rattle.sector_map.specs.Part.{Log, only}
use Rattle.set_log.specs.Layout.{PLACE}
use Rattle.set_log.specs.Log.{is_place_free, log_bytes, log_of, record_of}
use Rattle.set_log.specs.Ring.{IsFree, is_closed, last_of}
use Rattle.set_log.specs.Written.{HasClosingFlag, IsBesideNext, IsMovedOn, IsWritten, PutsRecord}

-- The map is laid out on the flash, and the log has a sector with this number. All places of the
-- sector from this index on are erased.
pub record CanWrite (map : SectorMap) (number index : ℕ) (chip : Chip) : Type 0 where
  pub laid_out : IsLaidOut map chip
  pub sector : number < 3
  pub free : IsFree map.sector_size (log_of map chip) number index

-- A call writes a record at a place, and then its gate.
pub record WritesRecord (map : SectorMap) (sector place : ℕ) (body : List ℕ) (old new : Chip)
    {T : Type 0} (result : Result T FlashError) : Type 0 where
  -- Only the log is written.
  pub outside : Keeps map (only Log) old new
  -- In the log, only the place is written.
  pub within : SameOutside (sector * map.sector_size + PLACE * place) PLACE (log_of map old)
      (log_of map new)
  -- In each case the last record of the sector is the old one or the new one.
  pub either : (last_of map.sector_size (log_bytes map new) sector
      ≡ last_of map.sector_size (log_bytes map old) sector)
      ⊎ (last_of map.sector_size (log_bytes map new) sector ≡ Some body)
  -- If the call succeeds, it is the new one.
  pub ok : OnOk result (last_of map.sector_size (log_bytes map new) sector ≡ Some body)
  -- If the call succeeds, the place holds the record, and the gate holds a flag.
  pub written : OnOk result (IsWritten map.sector_size (log_of map new) sector place body)
  -- No sector is erased.
  pub erases : new.erases ≡ old.erases
  -- It asks a journal for at most 88 bytes.
  pub journal : new.journaled ≤ old.journaled + 88
  pub ends : Ends result old new

-- A call writes a record in the sector after the active one, and makes that sector the active one.
pub record MovesOn (map : SectorMap) (active : ℕ) (body : List ℕ) (old new : Chip) {T : Type 0}
    (result : Result T FlashError) : Type 0 where
  -- Only the log is written.
  pub outside : Keeps map (only Log) old new
  -- In each case the current record is the old one or the new one.
  pub either : (record_of map new ≡ record_of map old) ⊎ (record_of map new ≡ Some body)
  -- If the call succeeds, it is the new one.
  pub ok : OnOk result (record_of map new ≡ Some body)
  -- In the active sector only the closing unit is written, and in the sector before it nothing.
  pub beside : IsBesideNext map.sector_size active (log_of map old) (log_of map new)
  -- If the call succeeds, the first place of the next sector holds the record, and a flag closes
  -- the active one.
  pub moved : OnOk result (IsMovedOn map.sector_size active body (log_of map new))
  -- A call that succeeds erases one sector.
  pub erases : OnOk result (new.erases ≡ old.erases + 1)
  -- It asks a journal for at most 120 bytes.
  pub journal : new.journaled ≤ old.journaled + 120
  pub ends : Ends result old new

-- A call writes a record after the current one.
pub record AppendsRecord (map : SectorMap) (body : List ℕ) (old new : Chip) {T : Type 0}
    (result : Result T FlashError) : Type 0 where
  -- Only the log is written.
  pub outside : Keeps map (only Log) old new
  -- In each case the current record is the old one or the new one.
  pub either : (record_of map new ≡ record_of map old) ⊎ (record_of map new ≡ Some body)
  -- If the call succeeds, it is the new one.
  pub ok : OnOk result (record_of map new ≡ Some body)
  -- The record is written at the first free place of the active sector, or at the first place of
  -- the next one.
  pub put : PutsRecord map body old new result
  -- A call that succeeds erases no sector if a place was free, and otherwise one.
  pub erases : OnOk result (new.erases ≡ old.erases + (if is_place_free map old then 0 else 1))
  -- If the flash is off, the call returns `Off`.
  pub off : old.is_on ≡ false → IsErrOf result Off
  -- It asks a journal for at most 120 bytes.
  pub journal : new.journaled ≤ old.journaled + 120
  pub ends : Ends result old new

-- A call erases the three sectors.
pub record ErasesLog (map : SectorMap) (old new : Chip) {T : Type 0} (result : Result T FlashError)
    : Type 0 where
  -- Only the log is written.
  pub outside : Keeps map (only Log) old new
  -- If the call succeeds, the complete log is erased.
  pub ok : OnOk result (IsErased (log_of map new) 0 (3 * map.sector_size))
  -- Three erases are counted if the call succeeds, and fewer if it fails.
  pub erases : OnOk result (new.erases ≡ old.erases + 3)
  pub few : OnErr result (new.erases < old.erases + 3)
  -- The call fails if the flash is off.
  pub on : OnOk result (old.is_on ≡ true)
  -- It asks a journal for at most 36 bytes.
  pub journal : new.journaled ≤ old.journaled + 36
  pub ends : Ends result old new

-- A call starts a log with a record, after which a statement about the log holds.
pub record BeginsLog (map : SectorMap) (bytes : List ℕ) (stands : Type 0) (old new : Chip)
    {T : Type 0} (result : Result T FlashError) : Type 0 where
  -- Only the log is written.
  pub outside : Keeps map (only Log) old new
  -- If the call succeeds, the statement holds.
  pub ok : OnOk result stands
  -- If the call succeeds, the first place of the first sector holds the record, and a flag closes
  -- the third sector.
  pub written : OnOk result (IsWritten map.sector_size (log_of map new) 0 0 bytes
      × HasClosingFlag map.sector_size (log_of map new) 2)
  -- The flag is written last: once the three sectors are erased, the third is closed only if the
  -- statement holds.
  pub last : new.erases ≡ old.erases + 3
      → is_closed map.sector_size (log_bytes map new) 2 ≡ true → stands
  -- A call that succeeds has erased three sectors.
  pub erases : OnOk result (new.erases ≡ old.erases + 3)
  -- If the flash is off, the call returns `Off`.
  pub off : old.is_on ≡ false → IsErrOf result Off
  -- It asks a journal for at most 144 bytes.
  pub journal : new.journaled ≤ old.journaled + 144
  -- A call that succeeds wasn't cut. A cut turns the flash off. A flash that was off stays
  -- unchanged.
  pub ends : Ends result old new

-- A call starts a log with a record: if it succeeds, this is the current record.
abbrev pub StartsRecord : SectorMap → List ℕ → Chip → Chip → {T : Type 0} → Result T FlashError
    → Type 0
StartsRecord map body old new result =
    BeginsLog map body (record_of map new ≡ Some body) old new result
