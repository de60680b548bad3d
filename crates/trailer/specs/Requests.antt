-- What a call that requests or confirms an image does.
use Rattle.std.specs.Prelude.{◌≡◌, ◌⊎◌, ℕ, ◌+◌, ◌≤◌, true, false, None, Some, Result, IsErrOf, OnOk}
use Rattle.flash_model.specs.declared.error.FlashError.{FlashError}
use Rattle.flash_model.specs.declared.error.FlashError.TheVariants.{Off}
use Rattle.flash_model.specs.Chip.{Chip, Ends, SameOutside}
use Rattle.sector_map.specs.declared.layout.SectorMap.{SectorMap}
use Rattle.sector_map.specs.declared.layout.Side.TheVariants.{Primary, Secondary}
use Rattle.sector_map.specs.Map.{Keeps}
use Rattle.sector_map.specs.Part.{TrailerOf, only}
use Rattle.trailer.specs.Places.{image_ok_place}
use Rattle.common.specs.declared.kind.Kind.{Kind}
use Rattle.common.specs.declared.kind.Kind.TheVariants.{Permanent}
use Rattle.trailer.specs.Fields.{bytes_at, erased_fields, fields_at, flag, place_of}
use Rattle.trailer.specs.Standing.{is_good, is_permanent, requested_fields, standing_of}

-- A call writes the kind of a request into the erased trailer of an image.
pub record MarksKind (map : SectorMap) (image : ℕ) (kind : Kind) (old new : Chip)
    {T : Type 0} (result : Result T FlashError) : Type 0 where
  -- No other part changes.
  pub outside : Keeps map (only (TrailerOf image Secondary)) old new
  -- No byte outside `image_ok` changes.
  pub unit : SameOutside (place_of map image Secondary image_ok_place) 8 old new
  -- No field except `image_ok` changes.
  pub own : fields_at map new image Secondary
      ≡ record erased_fields { image_ok = (fields_at map new image Secondary).image_ok }
  -- On success `image_ok` holds the flag if the request is permanent.
  pub flag : OnOk result (kind ≡ Permanent
      → bytes_at map new image Secondary image_ok_place 8 ≡ flag)
  pub ok : OnOk result (fields_at map new image Secondary
      ≡ record erased_fields { image_ok = is_permanent kind })
  pub erases : OnOk result (new.erases ≡ old.erases)
  -- It asks a journal for at most 20 bytes.
  pub journal : new.journaled ≤ old.journaled + 20
  pub ends : Ends result old new

-- A call requests an image.
pub record Requests (map : SectorMap) (image : ℕ) (kind : Kind) (old new : Chip)
    {T : Type 0} (result : Result T FlashError) : Type 0 where
  -- No other part changes.
  pub outside : Keeps map (only (TrailerOf image Secondary)) old new
  -- Only the last three units of the trailer change, so swap info doesn't.
  pub units : SameOutside (place_of map image Secondary image_ok_place) 24 old new
  -- In each case the request is complete, or the magic isn't good.
  pub either : (fields_at map new image Secondary ≡ requested_fields kind)
      ⊎ (is_good (fields_at map new image Secondary).magic ≡ false)
  -- In each case no request is pending, or the requested kind is.
  pub stands : (standing_of map new image ≡ None) ⊎ (standing_of map new image ≡ Some kind)
  -- On success the request is complete.
  pub ok : OnOk result (fields_at map new image Secondary ≡ requested_fields kind)
  -- On success `image_ok` holds the flag if the request is permanent.
  pub flag : OnOk result (kind ≡ Permanent
      → bytes_at map new image Secondary image_ok_place 8 ≡ flag)
  pub erases : OnOk result (new.erases ≡ old.erases)
  -- If the flash is off, the call returns `Off`.
  pub off : old.is_on ≡ false → IsErrOf result Off
  -- It asks a journal for at most 48 bytes.
  pub journal : new.journaled ≤ old.journaled + 48
  pub ends : Ends result old new

-- A call confirms an image.
pub record Confirms (map : SectorMap) (image : ℕ) (old new : Chip)
    {T : Type 0} (result : Result T FlashError) : Type 0 where
  -- No other part changes.
  pub outside : Keeps map (only (TrailerOf image Primary)) old new
  -- No byte outside `image_ok` changes.
  pub unit : SameOutside (place_of map image Primary image_ok_place) 8 old new
  -- If `image_ok` is set, nothing changes.
  pub idle : (fields_at map old image Primary).image_ok ≡ true → new ≡ old
  -- In each case the fields are as they were, or as they were with `image_ok` set.
  pub either : (fields_at map new image Primary ≡ fields_at map old image Primary)
      ⊎ (fields_at map new image Primary
      ≡ record (fields_at map old image Primary) { image_ok = true })
  -- On success `image_ok` is set, and the other fields are as they were.
  pub ok : OnOk result (fields_at map new image Primary
      ≡ record (fields_at map old image Primary) { image_ok = true })
  -- On success `image_ok` holds the flag if it was erased before.
  pub flag : OnOk result ((fields_at map old image Primary).image_ok ≡ false
      → bytes_at map new image Primary image_ok_place 8 ≡ flag)
  pub erases : OnOk result (new.erases ≡ old.erases)
  -- If the flash is off, the call returns `Off`.
  pub off : old.is_on ≡ false → IsErrOf result Off
  -- It asks a journal for at most 20 bytes.
  pub journal : new.journaled ≤ old.journaled + 20
  pub ends : Ends result old new
