-- What each call that swaps the images of a mask does: one record for each call.
use Rattle.std.specs.Prelude.{◌≡◌, ℕ, ◌+◌, ◌<◌, ◌≤◌, true, false, List, Result, IsErrOf, OnOk}
use Rattle.flash_model.specs.declared.error.FlashError.{FlashError}
use Rattle.flash_model.specs.declared.error.FlashError.TheVariants.{Off}
use Rattle.flash_model.specs.Chip.{Chip, Ends}
use Rattle.sector_map.specs.declared.layout.SectorMap.{SectorMap}
use Rattle.sector_map.specs.declared.layout.Side.{Side}
use Rattle.sector_map.specs.Map.{Keeps}
use Rattle.sector_map.specs.Part.{swap_of}
use Rattle.common.specs.Masks.{is_member}
use Rattle.swap_scratch.specs.Used.{steps_of}
use Rattle.swap_scratch.specs.Place.{KeepsRest}
use Rattle.swap_scratch.specs.Steps.{AsksForSteps}
use Rattle.swap_scratch.specs.Swap.{AreSwapped, IsAllCounted, IsDoneBelow, IsSwapAt, share, steps_done, steps_in_all}

-- A call swaps the slots of an image if the image is in the mask.
pub record SwapsMember (map : SectorMap) (mask : ℕ) (side : Side) (image : ℕ) (old new : Chip)
    {T : Type 0} (result : Result T FlashError) : Type 0 where
  -- Only the slots of the mask's images, their trailers of the side, and scratch are written.
  pub outside : Keeps map (swap_of mask side) old new
  -- In the slots only the sectors that the swap moves are written, and in the trailers only the
  -- status units of these sectors.
  pub rest : KeepsRest map side old new
  -- If the image isn't in the mask, or all its steps are counted, nothing changes.
  pub idle : (is_member mask image ≡ true → IsAllCounted map old side image) → new ≡ old
  -- In each case the flash is at a place of the same swap.
  pub resumes : (counts : ℕ → ℕ) (x y : ℕ → List ℕ)
      → IsDoneBelow map old side mask counts x y image → IsSwapAt map new side mask x y
  -- If the call succeeds, this image is done too.
  pub done : OnOk result ((counts : ℕ → ℕ) (x y : ℕ → List ℕ)
      → IsDoneBelow map old side mask counts x y image
      → IsDoneBelow map new side mask counts x y (image + 1))
  -- If the call succeeds and the images below this one are counted completely, so is this one,
  -- whatever the place of the swap was.
  pub counted : OnOk result (
      ((i : ℕ) → i < image → is_member mask i ≡ true → IsAllCounted map old side i)
      → (i : ℕ) → i < image + 1 → is_member mask i ≡ true → IsAllCounted map new side i)
  -- In each case the number of counted steps doesn't decrease, whatever the place of the swap was.
  pub forward : steps_done map old side mask ≤ steps_done map new side mask
  -- A call that succeeds erases one sector for each step of the image that was left.
  pub erases : OnOk result ((counts : ℕ → ℕ) (x y : ℕ → List ℕ)
      → IsDoneBelow map old side mask counts x y image
      → new.erases + share mask counts image
      ≡ old.erases + share mask (λ i. steps_of map old side i) image)
  -- It asks a journal for no more than the steps that it counts, and one more.
  pub journal : AsksForSteps map (steps_done map old side mask) (steps_done map new side mask + 1)
      old new
  -- A call that succeeds asks for no more than the steps that it counts.
  pub journal_ok : OnOk result (AsksForSteps map (steps_done map old side mask)
      (steps_done map new side mask) old new)
  -- If the image is in the mask and the flash is off, the call returns `Off`.
  pub off : is_member mask image ≡ true → old.is_on ≡ false → IsErrOf result Off
  pub ends : Ends result old new

-- A call swaps the slots of the images of a mask, from any place of the swap.
pub record Swaps (map : SectorMap) (mask : ℕ) (side : Side) (old new : Chip) {T : Type 0}
    (result : Result T FlashError) : Type 0 where
  -- Only the slots of the mask's images, their trailers of the side, and scratch are written.
  pub outside : Keeps map (swap_of mask side) old new
  -- In the slots only the sectors that the swap moves are written, and in the trailers only the
  -- status units of these sectors.
  pub rest : KeepsRest map side old new
  -- If all steps are counted, nothing changes.
  pub idle : ((i : ℕ) → is_member mask i ≡ true → IsAllCounted map old side i) → new ≡ old
  -- In each case the flash is at a place of the same swap of the same contents.
  pub resumes : (x y : ℕ → List ℕ) → IsSwapAt map old side mask x y
      → IsSwapAt map new side mask x y
  -- If the call succeeds, each slot begins with the old contents of the other one.
  pub swapped : OnOk result ((x y : ℕ → List ℕ) → IsSwapAt map old side mask x y
      → AreSwapped map new mask x y)
  -- If the call succeeds, all steps are counted, whatever the place of the swap was.
  pub counted : OnOk result ((i : ℕ) → is_member mask i ≡ true → IsAllCounted map new side i)
  -- In each case the number of counted steps doesn't decrease, whatever the place of the swap was.
  pub forward : steps_done map old side mask ≤ steps_done map new side mask
  -- A call that succeeds erases one sector for each step that was left.
  pub erases : OnOk result ((x y : ℕ → List ℕ) → IsSwapAt map old side mask x y
      → new.erases + steps_done map old side mask ≡ old.erases + steps_in_all map old side mask)
  -- It asks a journal for no more than the steps that it counts, and one more. So if it asks for
  -- more than one step, it has counted at least one.
  pub journal : AsksForSteps map (steps_done map old side mask) (steps_done map new side mask + 1)
      old new
  -- A call that succeeds asks for no more than the steps that it counts.
  pub journal_ok : OnOk result (AsksForSteps map (steps_done map old side mask)
      (steps_done map new side mask) old new)
  -- If the mask has an image and the flash is off, the call returns `Off`.
  pub off : (i : ℕ) → is_member mask i ≡ true → old.is_on ≡ false → IsErrOf result Off
  pub ends : Ends result old new
