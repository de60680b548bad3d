-- When a saved upload matches a flash.
use Rattle.std.specs.Prelude.{◌≡◌, ◌↔◌, ℕ, ◌+◌, ◌*◌, ◌<◌, ◌≤◌, Bool, false, IsTrue, List, length}
use Rattle.std.specs.Prelude.{Option, Some, None, Result, IfOk, IsErrOf, OnOk}
use Rattle.flash_model.specs.declared.error.FlashError.{FlashError}
use Rattle.flash_model.specs.declared.error.FlashError.TheVariants.{Off}
use Rattle.flash_model.specs.Chip.{Chip, Ends}
use Rattle.sector_map.specs.declared.layout.SectorMap.{SectorMap}
use Rattle.sector_map.specs.declared.layout.Side.TheVariants.{Secondary}
use Rattle.sector_map.specs.Part.{Slot}
use Rattle.sector_map.specs.Map.{length_of}
use Rattle.upload.specs.Sessions.{AllOpenAt, IsOpenAt, upload_at}
use Rattle.upload.specs.View.{view}
use Rattle.upload.specs.declared.sessions.Upload.{Upload}

-- The counts of an upload fit each other and the slot of its image: `written` bytes are complete
-- units, and the remaining received bytes don't complete one.
pub record HasCounts (map : SectorMap) (image written : ℕ) (upload : Upload) : Type 0 where
  pub there : image < map.images
  pub few : length upload.held.items < 8
  pub count : upload.received ≡ written + length upload.held.items
  pub units : (k : ℕ) × (written ≡ 8 * k)
  pub fits : upload.received ≤ upload.size
  pub room : upload.size ≤ length_of map (Slot image Secondary)

-- A call returns whether an upload matches the flash, if one is open.
pub record TellsOpen (map : SectorMap) (image : ℕ) (upload : Option Upload) (old new : Chip)
    (result : Result Bool FlashError) : Type 0 where
  -- The flash doesn't change.
  pub same : new ≡ old
  -- The result is true exactly if no upload is open or the open one matches the flash.
  pub ok : IfOk result (λ answer.
      IsTrue answer ↔ ((u : Upload) → upload ≡ Some u → IsOpenAt (view map old) image u))
  pub erases : OnOk result (new.erases ≡ old.erases)
  -- If the counts fit and the flash is off, that is the result.
  pub off : old.is_on ≡ false → (u : Upload) (written : ℕ) → upload ≡ Some u
      → HasCounts map image written u → IsErrOf result Off
  pub ends : Ends result old new

-- The first open upload of a table, if its counts fit.
pub record IsFirstOpen (map : SectorMap) (sessions : List (Option Upload)) (image : ℕ)
    (upload : Upload) : Type 0 where
  pub open_here : upload_at sessions image ≡ Some upload
  pub first : (j : ℕ) → j < image → upload_at sessions j ≡ None
  pub written : ℕ
  pub counts : HasCounts map image written upload

-- A call returns whether each open upload of a table matches the flash.
pub record TellsStand (map : SectorMap) (sessions : List (Option Upload)) (old new : Chip)
    (result : Result Bool FlashError) : Type 0 where
  -- The flash doesn't change.
  pub same : new ≡ old
  -- The result is true exactly if each open upload matches the flash.
  pub ok : IfOk result (λ answer. IsTrue answer ↔ AllOpenAt (view map old) sessions)
  pub erases : OnOk result (new.erases ≡ old.erases)
  -- If the counts of the first open upload fit and the flash is off, that is the result.
  pub off : old.is_on ≡ false → (image : ℕ) (upload : Upload)
      → IsFirstOpen map sessions image upload → IsErrOf result Off
  pub ends : Ends result old new
