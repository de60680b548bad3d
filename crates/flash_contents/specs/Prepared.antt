-- A set that is ready to be swapped: no status unit is set, and both images fit the size in the
-- trailer.
use Rattle.std.specs.Prelude.{◌≡◌, ℕ, ◌≤◌, true, List, length, Some}
use Rattle.sector_map.specs.declared.layout.Side.{Side}
use Rattle.image_reading.specs.declared.desc.Desc.{Desc}
use Rattle.image_reading.specs.Image.{IsIntact}
use Rattle.upload.specs.View.{View}
use Rattle.common.specs.Bytes.{Starts}

-- If the bytes begin with an intact image, it isn't longer than a size.
pub record IsRoomFor (whole : List ℕ) (size : ℕ) : Type 0 where
  pub each : (bytes : List ℕ) (description : Desc) → Starts whole bytes
      → IsIntact bytes description → length bytes ≤ size

-- This holds for both slots of an image.
pub record IsRoomForBoth (w : View) (i size : ℕ) : Type 0 where
  pub each : (on : Side) → IsRoomFor (w.slot i on) size

-- A trailer has this size, and the images of both slots fit it.
pub record HasRoom (w : View) (side : Side) (i n : ℕ) : Type 0 where
  pub size : (w.trailer i side).size ≡ Some n
  pub both : IsRoomForBoth w i n

-- The trailer of an image's side is ready to count the steps of a swap.
pub record IsPrepared (w : View) (side : Side) (i : ℕ) : Type 0 where
  pub fresh : (w.trailer i side).is_fresh ≡ true
  pub room : (size : ℕ) × HasRoom w side i size
