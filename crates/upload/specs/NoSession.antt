-- When a piece of an upload is refused because no upload takes it.
use Rattle.std.specs.Prelude.{◌≡◌, ℕ, ◌+◌, ◌*◌, ◌≤◌, List, length, Option, Some, None}
use Rattle.flash_model.specs.Chip.{Chip, IsErased}
use Rattle.sector_map.specs.declared.layout.SectorMap.{SectorMap}
use Rattle.sector_map.specs.declared.layout.Side.TheVariants.{Secondary}
use Rattle.sector_map.specs.Part.{Slot}
use Rattle.sector_map.specs.Map.{start_of}
use Rattle.trailer.specs.Fields.{erased_fields, fields_at}
use Rattle.upload.specs.Sessions.{upload_at}
use Rattle.upload.specs.Standing.{HasCounts}
use Rattle.upload.specs.declared.sessions.Upload.{Upload}

-- An upload matches the flash as far as a piece of `n` bytes is checked: its counts fit, the
-- trailer of its slot reads as erased, and the units that these bytes complete are erased.
pub record IsReadyFor (map : SectorMap) (image : ℕ) (upload : Upload) (n : ℕ) (chip : Chip)
    : Type 0 where
  pub written : ℕ
  pub counts : HasCounts map image written upload
  pub trailer : fields_at map chip image Secondary ≡ erased_fields
  pub erased : (k : ℕ) → 8 * k ≤ length upload.held.items + n
      → IsErased chip (start_of map (Slot image Secondary) + written) (8 * k)

-- No upload takes a piece of `n` bytes: no upload of the image is open. Or the open one has room for
-- these bytes, they complete a unit, and the upload doesn't match the flash as far as a piece is
-- checked.
pub data LacksSession (map : SectorMap) (sessions : List (Option Upload)) (image n : ℕ)
    (chip : Chip) : Type 0 where
  NotOpen : upload_at sessions image ≡ None → LacksSession map sessions image n chip
  NotReady : (upload : Upload) → upload_at sessions image ≡ Some upload
      → upload.received + n ≤ upload.size → 8 ≤ length upload.held.items + n
      → (IsReadyFor map image upload n chip → ⊥) → LacksSession map sessions image n chip
