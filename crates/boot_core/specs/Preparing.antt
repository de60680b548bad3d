-- Contracts of the functions that prepare trailers to count the steps of a swap.
use Rattle.std.specs.Prelude.{◌≡◌, ◌≢◌, ℕ, ◌+◌, ◌*◌, ◌<◌, ◌≤◌, true, Result, OnOk}
use Rattle.flash_model.specs.declared.error.FlashError.{FlashError}
use Rattle.flash_model.specs.Chip.{Chip, Ends}
use Rattle.sector_map.specs.declared.layout.SectorMap.{SectorMap}
use Rattle.sector_map.specs.declared.layout.Side.{Side}
use Rattle.sector_map.specs.Map.{Keeps, slot_sectors}
use Rattle.sector_map.specs.Part.{TrailerOf, only, trailers_on}
use Rattle.common.specs.Masks.{is_member}
use Rattle.swap_scratch.specs.Swap.{share}
use Rattle.image_reading.specs.Slot.{slot_bytes}
use Rattle.upload.specs.View.{view}
use Rattle.flash_contents.specs.Prepared.{IsPrepared}
use Rattle.flash_contents.specs.Starting.{AreHeld, IsHeld}
use Rattle.flash_contents.specs.Wear.{members}
use Rattle.boot_core.specs.SwapSize.{IsReady, IsSwapSize, IsUsed}

-- How many bytes of a slot of an image are used.
abbrev pub IsUsedIn : SectorMap → ℕ → Side → Chip → ℕ → Type 0
IsUsedIn map image side chip size = IsUsed (slot_bytes map chip image side) size

-- How many bytes of each slot of an image a swap moves.
abbrev pub IsSwapSizeIn : SectorMap → ℕ → Chip → ℕ → Type 0
IsSwapSizeIn map image chip size = IsSwapSize (view map chip) image size

-- Both slots of an image begin with intact images.
abbrev pub IsImageHeld : SectorMap → ℕ → Chip → Type 0
IsImageHeld map image chip = (side : Side) → IsHeld (slot_bytes map chip image side)

-- Both slots of each image of a set begin with intact images.
abbrev pub IsSetHeld : SectorMap → ℕ → Chip → Type 0
IsSetHeld map mask chip = (side : Side) → AreHeld (view map chip) mask side map.images

-- A number of bytes in a slot of an image.
pub record IsSizeIn (map : SectorMap) (image : ℕ) (says : Chip → ℕ → Type 0) (chip : Chip)
    (size : ℕ) : Type 0 where
  -- The number is exact.
  pub exact : says chip size
  -- It isn't 0.
  pub some : 0 < size
  -- It is at most the length of the slot.
  pub most : size ≤ slot_sectors map image * map.sector_size

-- A call prepares a trailer of an image.
pub record PreparesImage (map : SectorMap) (image : ℕ) (side : Side) (old new : Chip)
    {T : Type 0} (result : Result T FlashError) : Type 0 where
  -- Only this trailer is written.
  pub outside : Keeps map (only (TrailerOf image side)) old new
  -- If the call succeeds, the trailer is ready.
  pub ok : OnOk result (IsReady (view map new) side image)
  -- At most one sector is erased.
  pub erases : OnOk result (new.erases ≤ old.erases + 1)
  -- It asks a journal for at most 32 bytes.
  pub journal : new.journaled ≤ old.journaled + 32
  pub ends : Ends result old new

-- A call prepares the trailer of an image if the image is in a mask.
pub record PreparesMember (map : SectorMap) (mask : ℕ) (side : Side) (image : ℕ) (old new : Chip)
    {T : Type 0} (result : Result T FlashError) : Type 0 where
  -- Only the trailers of the mask on this side are written.
  pub outside : Keeps map (trailers_on mask side) old new
  -- If the call succeeds, the trailer of a member is ready.
  pub ok : OnOk result (is_member mask image ≡ true → IsReady (view map new) side image)
  -- However the call ends, the other images that were ready stay so.
  pub kept : (i : ℕ) → i ≢ image → IsReady (view map old) side i → IsReady (view map new) side i
  -- At most one sector is erased for a member, and none otherwise.
  pub erases : OnOk result (new.erases ≤ old.erases + share mask (λ i. 1) image)
  -- It asks a journal for at most 32 bytes, and for none if the image isn't in the mask.
  pub journal : new.journaled ≤ old.journaled + 32 * share mask (λ i. 1) image
  pub ends : Ends result old new

-- A call prepares the trailers of a mask on one side.
pub record Prepares (map : SectorMap) (mask : ℕ) (side : Side) (old new : Chip)
    {T : Type 0} (result : Result T FlashError) : Type 0 where
  -- Only these trailers are written.
  pub outside : Keeps map (trailers_on mask side) old new
  -- If the call succeeds, the trailers can count the steps of a swap.
  pub ok : OnOk result ((i : ℕ) → i < map.images → is_member mask i ≡ true
      → IsPrepared (view map new) side i)
  -- They say how many bytes it moves.
  pub ready : OnOk result ((i : ℕ) → i < map.images → is_member mask i ≡ true
      → IsReady (view map new) side i)
  -- At most one sector is erased for each member.
  pub erases : OnOk result (new.erases ≤ old.erases + members map mask)
  -- It asks a journal for at most 32 bytes for each member.
  pub journal : new.journaled ≤ old.journaled + 32 * members map mask
  pub ends : Ends result old new
