-- What settling leaves in the trailers of an image.
use Rattle.std.specs.Prelude.{◌≡◌, ◌⊎◌, ℕ, ◌-◌, Bool, true, false, List, slice_range}
use Rattle.flash_model.specs.Chip.{Chip}
use Rattle.sector_map.specs.declared.layout.SectorMap.{SectorMap}
use Rattle.sector_map.specs.declared.layout.Side.{Side}
use Rattle.trailer.specs.Places.{copy_done_place, image_ok_place, magic_place}
use Rattle.trailer.specs.declared.kinds.Magic.TheVariants.{Good}
use Rattle.trailer.specs.declared.kinds.Settling.{Settling}
use Rattle.trailer.specs.declared.kinds.Settling.TheVariants.{Test, Permanent, Back}
use Rattle.flash_model.specs.Units.{are_erased}
use Rattle.trailer.specs.Fields.{Fields, flag, good_magic, bytes_at, erased_fields}

-- Whether the image is settled as confirmed. An image that is tried isn't.
abbrev pub is_confirmed : Settling → Bool
is_confirmed Test = false
is_confirmed Permanent = true
is_confirmed Back = true

-- The trailers of a settled image. The primary one says that the swap is done, and whether the
-- image is confirmed. The secondary one is erased.
pub record IsSettled (confirmed : Bool) (primary secondary : Fields) : Type 0 where
  pub magic : primary.magic ≡ Good
  pub copy_done : primary.copy_done ≡ true
  pub image_ok : primary.image_ok ≡ confirmed
  pub erased : secondary ≡ erased_fields

-- Units are erased or hold these bytes. Then no write of them was torn.
abbrev pub IsFree : List ℕ → List ℕ → Type 0
IsFree units bytes = (are_erased units ≡ true) ⊎ (units ≡ bytes)

-- The magic of a trailer isn't torn.
abbrev pub IsMagicFree : SectorMap → Chip → ℕ → Side → Type 0
IsMagicFree map chip image side = IsFree (bytes_at map chip image side magic_place 16) good_magic

-- `image_ok` isn't torn. If the image isn't confirmed, it is erased.
pub record IsOkFree (confirmed : Bool) (unit : List ℕ) : Type 0 where
  pub kept : confirmed ≡ true → IsFree unit flag
  pub tried : confirmed ≡ false → are_erased unit ≡ true

-- None of `copy_done`, `image_ok` and the magic is torn.
pub record IsWhole (map : SectorMap) (chip : Chip) (image : ℕ) (side : Side) (confirmed : Bool)
    : Type 0 where
  pub copy_done : IsFree (bytes_at map chip image side copy_done_place 8) flag
  pub image_ok : IsOkFree confirmed (bytes_at map chip image side image_ok_place 8)
  pub magic : IsMagicFree map chip image side

-- A trailer doesn't have to be erased before its units are written. None of them is torn, and the
-- trailer isn't settled after a swap back, which always erases it.
pub record IsSpared (map : SectorMap) (chip : Chip) (image : ℕ) (side : Side) (settling : Settling)
    : Type 0 where
  pub forth : settling ≡ Back → ⊥
  pub whole : IsWhole map chip image side (is_confirmed settling)

-- The bytes of a trailer before `copy_done`, `image_ok` and the magic.
abbrev pub before_marks : SectorMap → List ℕ → List ℕ
before_marks map bytes = slice_range bytes 0 (map.sector_size - copy_done_place)

-- `copy_done`, `image_ok` and the magic hold their values, byte for byte.
pub record HasMarks (map : SectorMap) (chip : Chip) (image : ℕ) (side : Side) (confirmed : Bool)
    : Type 0 where
  pub copy_done : bytes_at map chip image side copy_done_place 8 ≡ flag
  pub image_ok : confirmed ≡ true → bytes_at map chip image side image_ok_place 8 ≡ flag
  pub tried : confirmed ≡ false → are_erased (bytes_at map chip image side image_ok_place 8) ≡ true
  pub magic : bytes_at map chip image side magic_place 16 ≡ good_magic
