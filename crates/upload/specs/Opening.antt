-- Contracts of the calls that open uploads: one record for each call.
use Rattle.std.specs.Prelude.{◌≡◌, ℕ, ◌+◌, ◌*◌, ◌≤◌, List, [], Option, Some, Result, OnOk}
use Rattle.flash_model.specs.declared.error.FlashError.{FlashError}
use Rattle.flash_model.specs.Chip.{Chip, Ends}
use Rattle.sector_map.specs.declared.layout.SectorMap.{SectorMap}
use Rattle.sector_map.specs.declared.layout.Side.TheVariants.{Secondary}
use Rattle.sector_map.specs.Part.{incoming_of}
use Rattle.sector_map.specs.Map.{Keeps, slot_sectors}
use Rattle.trailer.specs.Fields.{erased_fields, fields_at}
use Rattle.trailer.specs.Standing.{incoming_slot}
use Rattle.manifest.specs.declared.manifest.Component.{Component}
use Rattle.upload.specs.declared.sessions.Upload.{Upload}
use Rattle.upload.specs.View.{view}
use Rattle.upload.specs.Sessions.{IsWith, IsWritten}
use Rattle.upload.specs.Withdrawal.{IsKeptOrGone}
use Rattle.upload.specs.Accepted.{AreBlank, IsBlank, IsFresh, IsOpened, IsOpening, named_parts}
use Rattle.machine.specs.Accepted.{latest}
use Rattle.upload.specs.Wear.{journal_of_components, worn, worn_of}

-- A call withdraws the request of an image, and erases its secondary slot.
pub record OpensSlot (map : SectorMap) (image : ℕ) (old new : Chip) {T : Type 0}
    (result : Result T FlashError) : Type 0 where
  -- Only the image's secondary slot and its trailer are written.
  pub outside : Keeps map (incoming_of image) old new
  -- Even if the call fails, the request is unchanged or withdrawn.
  pub either : IsKeptOrGone (view map old) (view map new) image
  -- If the call succeeds, trailer and slot are erased.
  pub trailer : OnOk result (fields_at map new image Secondary ≡ erased_fields)
  pub slot : OnOk result (IsWritten (incoming_slot map new image) [])
  -- If the call succeeds, as many sectors of the two are erased as weren't erased before.
  pub erases : OnOk result (new.erases ≡ old.erases + worn map old image)
  -- If the call succeeds, each sector of the two is erased.
  pub erased : OnOk result (worn map new image ≡ 0)
  -- If slot and trailer were erased, nothing changes.
  pub idle : IsBlank map old image → new ≡ old
  -- It asks a journal for at most 32 bytes, and 12 for each sector of the slot.
  pub journal : new.journaled ≤ old.journaled + (32 + 12 * slot_sectors map image)
  pub ends : Ends result old new

-- A call opens an upload for a component, in a table of uploads.
pub record OpensUpload (map : SectorMap) (component : Component) (told tnew : List (Option Upload))
    (old new : Chip) {T : Type 0} (result : Result T FlashError) : Type 0 where
  -- Its slot is opened, as above.
  pub opens : OpensSlot map component.image old new result
  -- If the call succeeds, the table has a new upload.
  pub table : OnOk result ((u : Upload) × IsFresh component u
      × IsWith component.image (Some u) told tnew)

-- A call opens an upload for each component.
pub record OpensUploads (map : SectorMap) (cs : List Component) (told tnew : List (Option Upload))
    (old new : Chip) {T : Type 0} (result : Result T FlashError) : Type 0 where
  -- Only the secondary slots and trailers of the listed images are written.
  pub outside : Keeps map (named_parts cs) old new
  -- Even if the call fails, the request of each image is unchanged or withdrawn.
  pub opening : IsOpening (view map old) (view map new) (latest cs)
  -- If the call succeeds, each listed image has a new upload and an erased slot.
  pub opened : OnOk result (IsOpened (view map old) (view map new) told tnew (latest cs))
  -- If the call succeeds, as many sectors of these parts are erased as weren't erased before.
  pub erases : OnOk result (new.erases ≡ old.erases + worn_of map old cs)
  -- If all these parts were erased, nothing changes.
  pub idle : AreBlank map old cs → new ≡ old
  -- It asks a journal for at most the bytes that opening each slot takes.
  pub journal : new.journaled ≤ old.journaled + journal_of_components map cs
  pub ends : Ends result old new
