-- Contracts of the calls that read an image, a row or a table of the flash.
use Rattle.std.specs.Prelude.{◌≡◌, ◌++◌, ◌∷◌, [], ℕ, Bool, List, Option, Result, IfOk, OnOk}
use Rattle.flash_model.specs.declared.error.FlashError.{FlashError}
use Rattle.flash_model.specs.Chip.{Chip, Ends}
use Rattle.sector_map.specs.declared.layout.SectorMap.{SectorMap}
use Rattle.sector_map.specs.declared.layout.Side.{Side}
use Rattle.sector_map.specs.declared.layout.Side.TheVariants.{Secondary}
use Rattle.reports.specs.declared.table.Entry.{Entry}
use Rattle.reports.specs.declared.table.Image.{Image}
use Rattle.reports.specs.declared.table.Request.{Request}
use Rattle.reports.specs.declared.table.Request.TheVariants as asks
use Rattle.image_reading.specs.Slot.{slot_bytes}
use Rattle.trailer.specs.Fields.{fields_at}
use Rattle.machine.specs.Device.{DeviceState, Wanted}
use Rattle.upload.specs.Steady.{IsFront, IsRequested}
use Rattle.upload.specs.View.{view}
use Rattle.machine.specs.Boots.{IsRequestOf}
use Rattle.flash_contents.specs.Reading.{CanReadAt, HasRows, IsReadOf, IsReading, IsRowRead}
use Rattle.flash_contents.specs.declared.finding.Reading.{Reading}
use Rattle.decision.specs.Found.{IsEntryAt, IsEntryRead, IsReadBy, IsReadingAt, IsRowAt}
use Rattle.decision.specs.Found.{IsRequestHeld, IsRowAsked, IsRowHeld, IsRowWanted, IsTableHeld}
use Rattle.decision.specs.Places.{read_as, some_if}

-- A call reads what a decision uses of the image at the start of a slot.
pub record ReadsSlot (map : SectorMap) (image : ℕ) (side : Side) (old new : Chip)
    (result : Result (Option Entry) FlashError) : Type 0 where
  -- The flash doesn't change.
  pub same : new ≡ old
  -- The result belongs to the image that the slot holds.
  pub ok : IfOk result (λ entry. (held : Option (List ℕ))
      → IsFront (slot_bytes map old image side) held → IsReadOf held entry)
  -- The result is some entry exactly if that image is intact.
  pub front : IfOk result (IsEntryAt (slot_bytes map old image side))
  -- An entry is that of the intact image at the start of the slot.
  pub held : IfOk result (IsEntryRead (slot_bytes map old image side))
  pub ends : Ends result old new

-- A call reads the image at the start of a slot into the entry of a request.
pub record ReadsRequest (map : SectorMap) (image : ℕ) (side : Side) (old new : Chip)
    (request : Request) (result : Result Bool FlashError) : Type 0 where
  pub entry : Entry
  pub is : request ≡ asks.Entry entry
  pub reads : ReadsSlot map image side old new (read_as (some_if entry) result)

-- What is requested for an image.
abbrev pub IsRequestIn : SectorMap → ℕ → Chip → Request → Type 0
IsRequestIn map image chip request = (wanted : Option Wanted)
    → IsRequested (fields_at map chip image Secondary) (slot_bytes map chip image Secondary) wanted
    → IsRequestOf wanted request

-- A call reads what is requested for an image into a place.
pub record ReadsWanted (map : SectorMap) (image : ℕ) (old new : Chip) (request : Request)
    (result : Result Unit FlashError) : Type 0 where
  -- The flash doesn't change.
  pub same : new ≡ old
  -- The place has what is requested by the trailer and the slot.
  pub ok : OnOk result (IsRequestIn map image old request)
  -- On any flash, a requested entry is that of the image in the secondary slot.
  pub held : OnOk result (IsRequestHeld (slot_bytes map old image Secondary) request)
  pub ends : Ends result old new

-- A call reads the row of an image, whose slots are swapped or not.
pub record ReadsRow (map : SectorMap) (image : ℕ) (is_swapped : Bool) (floor : ℕ) (old new : Chip)
    (result : Result (Option Image) FlashError) : Type 0 where
  -- The flash doesn't change.
  pub same : new ≡ old
  -- The row is that of the state that the flash holds.
  pub ok : IfOk result (λ row. (s : DeviceState) → CanReadAt (view map old) s is_swapped image
      → IsRowRead (s.running image) (s.request image) floor row)
  -- The result is a row exactly if the images that it needs are intact.
  pub front : IfOk result (IsRowAt (view map old) is_swapped image)
  -- On any flash, the row is that of the images on the flash.
  pub held : IfOk result (IsRowHeld (view map old) is_swapped image)
  pub asked : IfOk result (IsRowAsked (view map old) is_swapped image)
  pub wanted : IfOk result (IsRowWanted (view map old) is_swapped image)
  pub ends : Ends result old new

-- A call adds the row of an image, whose slots are swapped or not.
pub record PushesRow (map : SectorMap) (image : ℕ) (is_swapped : Bool) (floor : ℕ) (old new : Chip)
    (before after : List Image) (result : Result Bool FlashError) : Type 0 where
  pub row : Image
  -- One row is added.
  pub pushed : after ≡ before ++ row ∷ []
  pub reads : ReadsRow map image is_swapped floor old new (read_as (some_if row) result)

-- A call reads the table of a device. The slots of the mask's images are swapped.
pub record ReadsTable (map : SectorMap) (mask : ℕ) (floors : List ℕ) (old new : Chip)
    (result : Result Reading FlashError) : Type 0 where
  -- The flash doesn't change.
  pub same : new ≡ old
  -- The result is the table of the state that the flash holds, or its lowest damaged image.
  pub ok : IfOk result (IsReadBy IsReading map old mask floors)
  -- The table has a row for each image.
  pub whole : IfOk result (HasRows map.images)
  -- On any flash: the result is a table exactly if all rows can be read.
  pub front : IfOk result (IsReadingAt (view map old) mask)
  -- On any flash, the rows of a table are those of the images on the flash.
  pub held : IfOk result (IsTableHeld (view map old) mask)
  pub ends : Ends result old new
