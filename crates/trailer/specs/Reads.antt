-- What a call that reads a trailer does: each record is a promise that several calls share.
use Rattle.std.specs.Prelude.{◌≡◌, ◌↔◌, ℕ, ◌+◌, ◌<◌, ◌≤◌, Bool, false, true, IsTrue}
use Rattle.std.specs.Prelude.{Result, IsErrOf, OnOk, IfOk}
use Rattle.flash_model.specs.declared.error.FlashError.{FlashError}
use Rattle.flash_model.specs.declared.error.FlashError.TheVariants.{Off}
use Rattle.flash_model.specs.Chip.{Chip, Ends}
use Rattle.sector_map.specs.declared.layout.SectorMap.{SectorMap}
use Rattle.sector_map.specs.Map.{IsLaidOut}
use Rattle.sector_map.specs.declared.layout.Side.{Side}
use Rattle.trailer.specs.Fields.{erased_fields, fields_at}
use Rattle.trailer.specs.Places.{withdrawn_place}
use Rattle.trailer.specs.Status.{status_count_of}

-- The map is laid out on the flash and has the image. Its trailers have n bytes that begin this
-- many bytes before their end, at or after the withdrawn unit.
pub record HasPlace (map : SectorMap) (image from_end n : ℕ) (chip : Chip) : Type 0 where
  pub laid_out : IsLaidOut map chip
  pub there : image < map.images
  pub room : n ≤ from_end
  pub within : from_end ≤ withdrawn_place

-- The map is laid out on the flash and has the image. Its trailers have n bytes, at least one, from
-- an offset on.
pub record HasRange (map : SectorMap) (image offset n : ℕ) (chip : Chip) : Type 0 where
  pub laid_out : IsLaidOut map chip
  pub there : image < map.images
  pub some : 0 < n
  pub within : offset + n ≤ map.sector_size

-- A call returns a value that it reads.
pub record Tells {V : Type 0} (value : V) (old new : Chip) (result : Result V FlashError)
    : Type 0 where
  -- Nothing changes.
  pub same : new ≡ old
  -- The result is the value.
  pub ok : IfOk result (λ answer. answer ≡ value)
  pub erases : OnOk result (new.erases ≡ old.erases)
  -- If the flash is off, the call returns `Off`.
  pub off : old.is_on ≡ false → IsErrOf result Off
  pub ends : Ends result old new

-- A call returns the number of a status unit before which all are set. It isn't before the known
-- one.
pub record PassesSet (map : SectorMap) (image : ℕ) (side : Side) (known : ℕ) (old new : Chip)
    (result : Result ℕ FlashError) : Type 0 where
  -- Nothing changes.
  pub same : new ≡ old
  pub past : IfOk result (λ set. known ≤ set)
  pub set : IfOk result (λ set. set ≤ status_count_of map old image side)
  -- A flash on which units were passed is on.
  pub on : IfOk result (λ set. known < set → old.is_on ≡ true)
  pub erases : OnOk result (new.erases ≡ old.erases)
  pub ends : Ends result old new

-- A call returns whether a fact holds.
pub record Decides (fact : Type 0) (old new : Chip) (result : Result Bool FlashError)
    : Type 0 where
  -- Nothing changes.
  pub same : new ≡ old
  -- The result is true exactly if the fact holds.
  pub ok : IfOk result (λ answer. IsTrue answer ↔ fact)
  pub erases : OnOk result (new.erases ≡ old.erases)
  pub ends : Ends result old new

-- A call returns whether a trailer reads as an erased one.
pub record TellsBlank (map : SectorMap) (image : ℕ) (side : Side) (old new : Chip)
    (result : Result Bool FlashError) : Type 0 where
  -- Nothing changes.
  pub same : new ≡ old
  -- The result is true exactly if the fields are those of an erased trailer.
  pub ok : IfOk result (λ answer. IsTrue answer ↔ (fields_at map old image side ≡ erased_fields))
  pub erases : OnOk result (new.erases ≡ old.erases)
  -- If the flash is off, the call returns `Off`.
  pub off : old.is_on ≡ false → IsErrOf result Off
  pub ends : Ends result old new
