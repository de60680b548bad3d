-- The contract of the call that decides for a boot.
use Rattle.std.specs.Prelude.{◌≡◌, ℕ, List, Result, IfOk}
use Rattle.flash_model.specs.Chip.{Chip, Ends}
use Rattle.flash_model.specs.declared.error.FlashError.{FlashError}
use Rattle.sector_map.specs.declared.layout.SectorMap.{SectorMap}
use Rattle.upload.specs.View.{view}
use Rattle.flash_contents.specs.Reading.{HasImages, IsFinding}
use Rattle.flash_contents.specs.declared.finding.Finding.{Finding}
use Rattle.decision.specs.Found.{HasTable, IsFindingAt, IsFindingHeld, IsReadBy}

-- A call returns the decision of a device with these floors. The slots of the mask's images are
-- swapped.
pub record FindsDecision (map : SectorMap) (mask : ℕ) (floors : List ℕ) (old new : Chip)
    (result : Result Finding FlashError) : Type 0 where
  -- The flash doesn't change.
  pub same : new ≡ old
  -- The result is the decision of the state that the flash holds.
  pub ok : IfOk result (IsReadBy IsFinding map old mask floors)
  -- Only images of the map are taken.
  pub whole : IfOk result (HasImages map.images)
  -- The table of a decision has a row for each image.
  pub rows : IfOk result (HasTable map.images)
  -- On any flash: the result has a table exactly if all rows can be read.
  pub front : IfOk result (IsFindingAt (view map old) mask)
  -- On any flash, a decision is that of the images on the flash.
  pub held : IfOk result (IsFindingHeld (view map old) mask)
  pub ends : Ends result old new
