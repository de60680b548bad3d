-- What each call that takes steps of the swap of one image does: one record for each call.
use Rattle.std.specs.Prelude.{◌≡◌, ◌≢◌, ◌⊎◌, ℕ, ◌+◌, ◌*◌, ◌/◌, ◌%◌, ◌<◌, ◌≤◌, false, List}
use Rattle.std.specs.Prelude.{Result, IsErrOf, OnOk, IfOk}
use Rattle.flash_model.specs.declared.error.FlashError.{FlashError}
use Rattle.flash_model.specs.declared.error.FlashError.TheVariants.{Off}
use Rattle.flash_model.specs.Chip.{Chip, Ends}
use Rattle.sector_map.specs.declared.layout.SectorMap.{SectorMap}
use Rattle.sector_map.specs.declared.layout.Side.{Side}
use Rattle.sector_map.specs.Map.{Keeps, slot_sectors}
use Rattle.sector_map.specs.Part.{swap_one}
use Rattle.trailer.specs.Fields.{trailer_bytes}
use Rattle.trailer.specs.Status.{status_unit, status_count_of}
use Rattle.swap_scratch.specs.Copies.{journal_of_copy}
use Rattle.swap_scratch.specs.Used.{used_of, steps_of}
use Rattle.swap_scratch.specs.declared.progress.Progress.{Progress}
use Rattle.swap_scratch.specs.Place.{sectors_of_swap, moved_of, IsPartway, IsImagePlace, KeepsBehind, KeepsRest}
use Rattle.swap_scratch.specs.Swap.{IsAllCounted}

-- A call reads how many sectors of each slot of an image a swap moves.
pub record ReadsUsed (map : SectorMap) (image : ℕ) (side : Side) (old new : Chip)
    (result : Result ℕ FlashError) : Type 0 where
  -- Nothing changes.
  pub same : new ≡ old
  -- If the call succeeds, the result is exact.
  pub ok : IfOk result (λ used. used ≡ used_of map old side image)
  -- If the call succeeds, the result is at most the number of sectors of the slot.
  pub few : IfOk result (λ used. used ≤ slot_sectors map image)
  pub erases : OnOk result (new.erases ≡ old.erases)
  -- If the flash is off, the call returns `Off`.
  pub off : old.is_on ≡ false → IsErrOf result Off
  pub ends : Ends result old new

-- A call reads the progress of the swap of an image, as the trailer of a side counts it.
pub record ReadsProgress (map : SectorMap) (image : ℕ) (side : Side) (old new : Chip)
    (result : Result Progress FlashError) : Type 0 where
  -- Nothing changes.
  pub same : new ≡ old
  -- If the call succeeds, both numbers are exact.
  pub ok : IfOk result (λ progress. (progress.taken ≡ status_count_of map old image side)
      × (progress.steps ≡ steps_of map old side image))
  -- If the flash is off, the call returns `Off`.
  pub off : old.is_on ≡ false → IsErrOf result Off
  pub ends : Ends result old new

-- The swap of `used` sectors of each slot of an image has step `status`, counted from 0.
pub record IsStep (map : SectorMap) (image used status : ℕ) : Type 0 where
  pub there : image < map.images
  pub few : used ≤ slot_sectors map image
  pub below : status < 3 * used

-- A call copies the sector of step `status`.
pub record MovesSector (map : SectorMap) (image used status : ℕ) (old new : Chip) {T : Type 0}
    (result : Result T FlashError) : Type 0 where
  -- Only the slots of the image and scratch are written.
  pub outside : Keeps map (moved_of image) old new
  -- In each case the old contents are still at their places.
  pub kept : (x y : ℕ → ℕ → ℕ)
      → IsPartway old (sectors_of_swap map image used) x y (status / 3) (status % 3)
      → IsPartway new (sectors_of_swap map image used) x y (status / 3) (status % 3)
  -- If the call succeeds, the old contents are also at their places after the step.
  pub moved : OnOk result ((x y : ℕ → ℕ → ℕ)
      → IsPartway old (sectors_of_swap map image used) x y (status / 3) (status % 3)
      → IsPartway new (sectors_of_swap map image used) x y ((status + 1) / 3) ((status + 1) % 3))
  -- The bytes after the sectors of the swap don't change.
  pub behind : KeepsBehind map image (used * map.sector_size) old new
  -- A call that succeeds erases one sector.
  pub erases : OnOk result (new.erases ≡ old.erases + 1)
  -- It asks a journal for 12 bytes to erase, and for no more than a copy of a sector.
  pub journal : new.journaled ≤ old.journaled + (12 + journal_of_copy map.sector_size)
  pub ends : Ends result old new

-- Step `status` is the next one of the swap of an image: the trailer counts this many steps.
pub record IsNextStep (map : SectorMap) (image : ℕ) (side : Side) (sectors status : ℕ) (chip : Chip)
    : Type 0 where
  pub used : sectors ≡ used_of map chip side image
  pub count : status ≡ status_count_of map chip image side
  pub below : status < 3 * sectors

-- How many bytes a step asks a journal for at most: 12 to erase a sector, its own bytes and 12 for
-- each piece of 256, and 20 for the status unit.
abbrev pub journal_of_step : SectorMap → ℕ
journal_of_step map = map.sector_size + 12 * ((map.sector_size + 255) / 256) + 32

-- A call asks a journal for at most the steps from one count to another.
pub record AsksForSteps (map : SectorMap) (before after : ℕ) (old new : Chip) : Type 0 where
  pub most : new.journaled + journal_of_step map * before
      ≤ old.journaled + journal_of_step map * after

-- A call takes step `status`, and counts it.
pub record TakesStep (map : SectorMap) (image : ℕ) (side : Side) (status : ℕ) (old new : Chip)
    {T : Type 0} (result : Result T FlashError) : Type 0 where
  -- Only the slots of the image, its trailer of the side, and scratch are written.
  pub outside : Keeps map (swap_one image side) old new
  -- In the slots only the sectors that the swap moves are written, and in the trailer only the
  -- status units of these sectors.
  pub rest : KeepsRest map side old new
  -- In each case the swap is at this step or at the next one.
  pub resumes : (x y : List ℕ) → IsImagePlace map old side image x y status
      → IsImagePlace map new side image x y status
      ⊎ IsImagePlace map new side image x y (status + 1)
  -- If the call succeeds, the swap is at the next step.
  pub taken : OnOk result ((x y : List ℕ) → IsImagePlace map old side image x y status
      → IsImagePlace map new side image x y (status + 1))
  -- No other status unit changes.
  pub units : (j : ℕ) → j ≢ status → j < 3 * slot_sectors map image
      → status_unit (trailer_bytes map new image side) j
      ≡ status_unit (trailer_bytes map old image side) j
  -- If the call succeeds, the count increases, whatever the place of the swap.
  pub counted : OnOk result (status < status_count_of map new image side)
  -- In each case the count doesn't decrease.
  pub forward : status ≤ status_count_of map new image side
  -- A call that succeeds erases one sector.
  pub erases : OnOk result (new.erases ≡ old.erases + 1)
  -- It asks a journal for no more than a step.
  pub journal : new.journaled ≤ old.journaled + journal_of_step map
  pub ends : Ends result old new

-- A call swaps the slots of an image, from any place of the swap.
pub record SwapsImage (map : SectorMap) (image : ℕ) (side : Side) (old new : Chip) {T : Type 0}
    (result : Result T FlashError) : Type 0 where
  -- Only the slots of the image, its trailer of the side, and scratch are written.
  pub outside : Keeps map (swap_one image side) old new
  -- In the slots only the sectors that the swap moves are written, and in the trailer only the
  -- status units of these sectors.
  pub rest : KeepsRest map side old new
  -- If all steps are counted, nothing changes.
  pub idle : IsAllCounted map old side image → new ≡ old
  -- In each case the swap is at the old step or at a later one.
  pub resumes : (x y : List ℕ) (c : ℕ) → IsImagePlace map old side image x y c
      → (d : ℕ) × (c ≤ d) × IsImagePlace map new side image x y d
  -- If the call succeeds, the swap is at its end.
  pub swapped : OnOk result ((x y : List ℕ) (c : ℕ) → IsImagePlace map old side image x y c
      → IsImagePlace map new side image x y (steps_of map old side image))
  -- If the call succeeds, all steps are counted, whatever the place of the swap was.
  pub counted : OnOk result (IsAllCounted map new side image)
  -- In each case the count doesn't decrease, whatever the place of the swap was.
  pub forward : status_count_of map old image side ≤ status_count_of map new image side
  -- A call that succeeds erases one sector for each step that was left.
  pub erases : OnOk result ((x y : List ℕ) (c : ℕ) → IsImagePlace map old side image x y c
      → new.erases + c ≡ old.erases + steps_of map old side image)
  -- It asks a journal for no more than the steps that it counts, and one more.
  pub journal : AsksForSteps map (status_count_of map old image side)
      (status_count_of map new image side + 1) old new
  -- A call that succeeds asks for no more than the steps that it counts.
  pub journal_ok : OnOk result (AsksForSteps map (status_count_of map old image side)
      (status_count_of map new image side) old new)
  -- If the flash is off, the call returns `Off`.
  pub off : old.is_on ≡ false → IsErrOf result Off
  pub ends : Ends result old new
