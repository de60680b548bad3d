-- What a call that settles the trailers of an image after a swap does.
use Rattle.std.specs.Prelude.{◌≡◌, ℕ, ◌+◌, ◌≤◌, Bool, true, false, Result, IsErrOf, OnOk}
use Rattle.flash_model.specs.declared.error.FlashError.{FlashError}
use Rattle.flash_model.specs.declared.error.FlashError.TheVariants.{Off}
use Rattle.flash_model.specs.Chip.{Chip, Ends, SameOutside}
use Rattle.sector_map.specs.declared.layout.SectorMap.{SectorMap}
use Rattle.sector_map.specs.declared.layout.Side.{Side}
use Rattle.sector_map.specs.declared.layout.Side.TheVariants.{Primary, Secondary}
use Rattle.sector_map.specs.Map.{Keeps}
use Rattle.sector_map.specs.Part.{TrailerOf, only, trailers_of}
use Rattle.trailer.specs.Places.{copy_done_place, image_ok_place}
use Rattle.trailer.specs.declared.kinds.Settling.{Settling}
use Rattle.trailer.specs.declared.kinds.Settling.TheVariants.{Back}
use Rattle.flash_model.specs.Units.{are_erased}
use Rattle.trailer.specs.Fields.{bytes_at, fields_at, flag, place_of, trailer_bytes}
use Rattle.trailer.specs.Settled.{HasMarks, IsSettled, IsSpared, IsWhole, before_marks, is_confirmed}

-- A call sets `image_ok` of a trailer if the image is to be confirmed.
pub record MarksOk (map : SectorMap) (image : ℕ) (side : Side) (confirmed : Bool)
    (old new : Chip) {T : Type 0} (result : Result T FlashError) : Type 0 where
  -- No byte outside `image_ok` changes.
  pub outside : SameOutside (place_of map image side image_ok_place) 8 old new
  -- On success it holds the flag if the image is to be confirmed.
  pub ok : OnOk result (confirmed ≡ true → bytes_at map new image side image_ok_place 8 ≡ flag)
  -- If the image isn't to be confirmed, nothing changes.
  pub tried : confirmed ≡ false → new ≡ old
  pub erases : OnOk result (new.erases ≡ old.erases)
  -- It asks a journal for at most 20 bytes.
  pub journal : new.journaled ≤ old.journaled + 20
  pub ends : Ends result old new

-- A call writes `copy_done`, writes `image_ok` if the image is to be confirmed, and writes the
-- magic.
pub record MarksTrailer (map : SectorMap) (image : ℕ) (side : Side) (confirmed : Bool)
    (old new : Chip) {T : Type 0} (result : Result T FlashError) : Type 0 where
  -- No other part changes.
  pub outside : Keeps map (only (TrailerOf image side)) old new
  -- Only the last four units of the trailer change.
  pub units : SameOutside (place_of map image side copy_done_place) 32 old new
  -- On success these units hold their values.
  pub ok : OnOk result (HasMarks map new image side confirmed)
  pub erases : OnOk result (new.erases ≡ old.erases)
  -- It asks a journal for at most 68 bytes.
  pub journal : new.journaled ≤ old.journaled + 68
  pub ends : Ends result old new

-- A call erases a trailer if settling can't write its units.
pub record MakesWhole (map : SectorMap) (image : ℕ) (side : Side) (settling : Settling)
    (old new : Chip) {T : Type 0} (result : Result T FlashError) : Type 0 where
  -- No other part changes.
  pub outside : Keeps map (only (TrailerOf image side)) old new
  -- On success these units can be written.
  pub ok : OnOk result (IsWhole map new image side (is_confirmed settling))
  -- On success after a swap back, each byte of the trailer is erased.
  pub back : OnOk result (settling ≡ Back → are_erased (trailer_bytes map new image side) ≡ true)
  -- On success the trailer was erased exactly if it had to be, as the count of erases says.
  pub erases : OnOk result (new.erases ≤ old.erases + 1)
  pub spares : OnOk result (IsSpared map old image side settling → new ≡ old)
  pub must : OnOk result ((IsSpared map old image side settling → ⊥)
      → new.erases ≡ old.erases + 1)
  -- It asks a journal for at most 12 bytes.
  pub journal : new.journaled ≤ old.journaled + 12
  pub ends : Ends result old new

-- A call settles the trailers of an image.
pub record Settles (map : SectorMap) (image : ℕ) (settling : Settling) (old new : Chip)
    {T : Type 0} (result : Result T FlashError) : Type 0 where
  -- No other part changes.
  pub outside : Keeps map (trailers_of image) old new
  -- On success the fields are those of a settled image.
  pub ok : OnOk result (IsSettled (is_confirmed settling) (fields_at map new image Primary)
      (fields_at map new image Secondary))
  -- On success no unit of the primary trailer is torn.
  pub marks : OnOk result (HasMarks map new image Primary (is_confirmed settling))
  -- On success each byte of the secondary trailer is erased. After a swap back, so is each byte of
  -- the primary trailer before its marks.
  pub erased : OnOk result (are_erased (trailer_bytes map new image Secondary) ≡ true)
  pub back : OnOk result (settling ≡ Back
      → are_erased (before_marks map (trailer_bytes map new image Primary)) ≡ true)
  -- On success the primary trailer was erased exactly if it had to be, as the count of erases says.
  pub erases : OnOk result (new.erases ≤ old.erases + 2)
  pub spares : OnOk result (IsSpared map old image Primary settling
      → new.erases ≡ old.erases + 1)
  pub must : OnOk result ((IsSpared map old image Primary settling → ⊥)
      → new.erases ≡ old.erases + 2)
  -- If the flash is off, the call returns `Off`.
  pub off : old.is_on ≡ false → IsErrOf result Off
  -- It asks a journal for at most 92 bytes.
  pub journal : new.journaled ≤ old.journaled + 92
  pub ends : Ends result old new
