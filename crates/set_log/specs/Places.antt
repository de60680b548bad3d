-- What each call on one sector or one place of the log does: one record for each call.
use Rattle.std.specs.Prelude.{◌≡◌, ℕ, ◌+◌, ◌-◌, ◌*◌, ◌<◌, ◌≤◌, Bool, true, false, List}
use Rattle.std.specs.Prelude.{slice_range, Result, OnOk, OnErr, IfOk}
use Rattle.flash_model.specs.declared.error.FlashError.{FlashError}
use Rattle.flash_model.specs.Chip.{Chip, Ends, IsErased, Reads, SameOutside}
use Rattle.sector_map.specs.declared.layout.SectorMap.{SectorMap}
use Rattle.sector_map.specs.Map.{IsLaidOut, Keeps}
use Rattle.sector_map.specs.Part.{Log, only}
use Rattle.set_log.specs.Layout.{GATE, PLACE, RECORD, flag}
use Rattle.set_log.specs.Log.{log_bytes, log_of}
use Rattle.set_log.specs.Ring.{is_closed, places_in, reads_erased}
use Rattle.set_log.specs.Written.{HasClosingFlag}

-- A call returns a value that it reads.
pub record Tells {V : Type 0} (value : V) (old new : Chip) (result : Result V FlashError)
    : Type 0 where
  -- Nothing changes.
  pub same : new ≡ old
  -- If the call succeeds, the result is the value.
  pub ok : IfOk result (λ answer. answer ≡ value)
  -- The call fails if the flash is off.
  pub on : OnOk result (old.is_on ≡ true)
  pub ends : Ends result old new

-- The map is laid out on the flash, the log has a sector with this number, and the sector has a
-- place with this index.
pub record HasPlace (map : SectorMap) (number index : ℕ) (chip : Chip) : Type 0 where
  pub laid_out : IsLaidOut map chip
  pub sector : number < 3
  pub place : index < places_in map.sector_size

-- A call returns whether a place is erased.
pub record TellsErased (map : SectorMap) (sector place : ℕ) (old new : Chip)
    (result : Result Bool FlashError) : Type 0 where
  -- Nothing changes.
  pub same : new ≡ old
  -- If the call succeeds, the result is exact.
  pub ok : IfOk result (λ yes. yes
      ≡ reads_erased (log_bytes map old) (sector * map.sector_size + PLACE * place) PLACE)
  pub ends : Ends result old new

-- A call reads the record of a place.
pub record ReadsPlace (map : SectorMap) (sector place : ℕ) (old new : Chip)
    (result : Result (List ℕ) FlashError) : Type 0 where
  -- Nothing changes.
  pub same : new ≡ old
  -- If the call succeeds, the result is the bytes before the gate.
  pub ok : IfOk result (λ body. body ≡ slice_range (log_bytes map old)
      (sector * map.sector_size + PLACE * place)
      (sector * map.sector_size + PLACE * place + RECORD))
  pub ends : Ends result old new

-- The place exists, and its bytes before the gate are erased.
pub record CanWriteBody (map : SectorMap) (number index : ℕ) (chip : Chip) : Type 0 where
  pub laid_out : IsLaidOut map chip
  pub sector : number < 3
  pub place : index < places_in map.sector_size
  pub erased : IsErased (log_of map chip) (number * map.sector_size + PLACE * index) RECORD

-- A call writes a record at a place, without the gate.
pub record WritesBody (map : SectorMap) (sector place : ℕ) (body : List ℕ) (old new : Chip)
    {T : Type 0} (result : Result T FlashError) : Type 0 where
  -- Only the log is written.
  pub outside : Keeps map (only Log) old new
  -- In the log, only the bytes before the gate are written.
  pub within : SameOutside (sector * map.sector_size + PLACE * place) RECORD (log_of map old)
      (log_of map new)
  -- If the call succeeds, these bytes are the record.
  pub ok : OnOk result
      (Reads (log_of map new) (sector * map.sector_size + PLACE * place) body)
  -- No sector is erased.
  pub erases : new.erases ≡ old.erases
  -- It asks a journal for at most 68 bytes.
  pub journal : new.journaled ≤ old.journaled + 68
  pub ends : Ends result old new

-- The place exists, and its gate is erased.
pub record CanSetGate (map : SectorMap) (number index : ℕ) (chip : Chip) : Type 0 where
  pub laid_out : IsLaidOut map chip
  pub sector : number < 3
  pub place : index < places_in map.sector_size
  pub erased : IsErased (log_of map chip) (number * map.sector_size + PLACE * index + GATE) 8

-- A call sets the gate of a place.
pub record SetsGate (map : SectorMap) (sector place : ℕ) (old new : Chip) {T : Type 0}
    (result : Result T FlashError) : Type 0 where
  -- Only the log is written.
  pub outside : Keeps map (only Log) old new
  -- In the log, only the gate is written.
  pub within : SameOutside (sector * map.sector_size + PLACE * place + GATE) 8 (log_of map old)
      (log_of map new)
  -- If the call succeeds, the gate is set.
  pub ok : OnOk result
      (reads_erased (log_bytes map new) (sector * map.sector_size + PLACE * place + GATE) 8 ≡ false)
  -- If the call succeeds, the gate holds a flag.
  pub flag : OnOk result
      (Reads (log_of map new) (sector * map.sector_size + PLACE * place + GATE) flag)
  -- No sector is erased.
  pub erases : new.erases ≡ old.erases
  -- It asks a journal for at most 20 bytes.
  pub journal : new.journaled ≤ old.journaled + 20
  pub ends : Ends result old new

-- The map is laid out on the flash, the log has a sector with this number, and the sector is open.
pub record CanClose (map : SectorMap) (number : ℕ) (chip : Chip) : Type 0 where
  pub laid_out : IsLaidOut map chip
  pub sector : number < 3
  pub stays_open : is_closed map.sector_size (log_bytes map chip) number ≡ false

-- A call closes a sector.
pub record Closes (map : SectorMap) (sector : ℕ) (old new : Chip) {T : Type 0}
    (result : Result T FlashError) : Type 0 where
  -- Only the log is written.
  pub outside : Keeps map (only Log) old new
  -- In the log, only the closing unit of the sector is written.
  pub within : SameOutside (sector * map.sector_size + (map.sector_size - 8)) 8 (log_of map old)
      (log_of map new)
  -- If the call succeeds, the sector is closed.
  pub ok : OnOk result (is_closed map.sector_size (log_bytes map new) sector ≡ true)
  -- If the call succeeds, its closing unit holds a flag.
  pub flag : OnOk result (HasClosingFlag map.sector_size (log_of map new) sector)
  -- No sector is erased.
  pub erases : new.erases ≡ old.erases
  -- It asks a journal for at most 20 bytes.
  pub journal : new.journaled ≤ old.journaled + 20
  pub ends : Ends result old new

-- A call erases a sector.
pub record ErasesSector (map : SectorMap) (sector : ℕ) (old new : Chip) {T : Type 0}
    (result : Result T FlashError) : Type 0 where
  -- Only the log is written.
  pub outside : Keeps map (only Log) old new
  -- In the log, only the sector is written.
  pub within : SameOutside (sector * map.sector_size) map.sector_size (log_of map old)
      (log_of map new)
  -- If the call succeeds, the sector is erased.
  pub ok : OnOk result
      (IsErased (log_of map new) (sector * map.sector_size) map.sector_size)
  -- The erase is counted if the call succeeds, and isn't if it fails.
  pub erases : OnOk result (new.erases ≡ old.erases + 1)
  pub uncounted : OnErr result (new.erases ≡ old.erases)
  -- The call fails if the flash is off.
  pub on : OnOk result (old.is_on ≡ true)
  -- It asks a journal for at most 12 bytes.
  pub journal : new.journaled ≤ old.journaled + 12
  pub ends : Ends result old new
