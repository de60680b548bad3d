-- Which bytes of the log a written record changes.
use Rattle.std.specs.Prelude.{◌≡◌, ℕ, ◌+◌, ◌-◌, ◌*◌, ◌<◌, ◌≤◌, List, slice_index}
use Rattle.std.specs.Prelude.{false, Result, OnOk}
use Rattle.flash_model.specs.declared.error.FlashError.{FlashError}
use Rattle.flash_model.specs.Chip.{Chip, Reads, SameOutside}
use Rattle.sector_map.specs.declared.layout.SectorMap.{SectorMap}
use Rattle.set_log.specs.Layout.{GATE, PLACE, flag}
use Rattle.set_log.specs.Log.{is_place_free, log_bytes, log_of}
use Rattle.set_log.specs.Ring.{IsActive, IsFree, next_of, previous_of}

-- A place of a sector holds a record: its bytes, and a flag as its gate.
pub record IsWritten (e : ℕ) (log : Chip) (sector place : ℕ) (bytes : List ℕ) : Type 0 where
  pub body : Reads log (sector * e + PLACE * place) bytes
  pub gate : Reads log (sector * e + PLACE * place + GATE) flag

-- The closing unit of a sector holds a flag.
abbrev pub HasClosingFlag : ℕ → Chip → ℕ → Type 0
HasClosingFlag e log sector = Reads log (sector * e + (e - 8)) flag

-- The first free place of a sector: this place and all later ones are erased, which is true of no
-- earlier place.
pub record IsFirstFree (e : ℕ) (log : Chip) (sector place : ℕ) : Type 0 where
  pub free : IsFree e log sector place
  pub first : (earlier : ℕ) → earlier < place → IsFree e log sector earlier → ⊥

-- In the active sector only the closing unit is written, and in the sector before it nothing.
pub record IsBesideNext (e active : ℕ) (old new : Chip) : Type 0 where
  pub places : (k : ℕ) → active * e ≤ k → k < active * e + (e - 8)
      → slice_index new.bytes k ≡ slice_index old.bytes k
  pub before : (k : ℕ) → previous_of active * e ≤ k → k < previous_of active * e + e
      → slice_index new.bytes k ≡ slice_index old.bytes k

-- The log moved on: the first place of the next sector holds a record, and a flag closes the active
-- sector.
pub record IsMovedOn (e active : ℕ) (bytes : List ℕ) (new : Chip) : Type 0 where
  pub record_there : IsWritten e new (next_of active) 0 bytes
  pub closed : HasClosingFlag e new active

-- A call writes a record after the current one.
pub record PutsRecord (map : SectorMap) (bytes : List ℕ) (old new : Chip) {T : Type 0}
    (result : Result T FlashError) : Type 0 where
  -- If a place of the active sector is free, only the first such place is written.
  pub within : (sector place : ℕ) → IsActive map.sector_size (log_bytes map old) sector
      → IsFirstFree map.sector_size (log_of map old) sector place
      → SameOutside (sector * map.sector_size + PLACE * place) PLACE (log_of map old)
      (log_of map new)
  -- If the call succeeds, that place holds the record, and a flag as its gate.
  pub written : OnOk result ((sector place : ℕ)
      → IsActive map.sector_size (log_bytes map old) sector
      → IsFirstFree map.sector_size (log_of map old) sector place
      → IsWritten map.sector_size (log_of map new) sector place bytes)
  -- If no place is free, only the closing unit of the active sector is written in it, and nothing
  -- in the sector before it.
  pub beside : (sector : ℕ) → IsActive map.sector_size (log_bytes map old) sector
      → is_place_free map old ≡ false
      → IsBesideNext map.sector_size sector (log_of map old) (log_of map new)
  -- If no place is free and the call succeeds, the first place of the next sector holds the record,
  -- and a flag closes the active one.
  pub moved : OnOk result ((sector : ℕ) → IsActive map.sector_size (log_bytes map old) sector
      → is_place_free map old ≡ false
      → IsMovedOn map.sector_size sector bytes (log_of map new))
