-- How many bytes of each slot a swap moves.
use Rattle.std.specs.Prelude.{◌≡◌, ℕ, max, List, length, Some}
use Rattle.sector_map.specs.declared.layout.Side.{Side}
use Rattle.sector_map.specs.declared.layout.Side.TheVariants.{Primary, Secondary}
use Rattle.image_reading.specs.declared.desc.Desc.{Desc}
use Rattle.image_reading.specs.Image.{BeginsIntact}
use Rattle.upload.specs.View.{View}
use Rattle.flash_contents.specs.Prepared.{IsPrepared}

-- How many bytes of a slot are used: the length of its intact image, or that of the slot if it
-- begins with none.
pub record IsUsed (slot : List ℕ) (n : ℕ) : Type 0 where
  pub intact : (description : Desc) → BeginsIntact slot description → n ≡ description.length
  pub damaged : ((description : Desc) → BeginsIntact slot description → ⊥) → n ≡ length slot

-- How many bytes of each slot of an image a swap moves: the larger one of both used lengths.
pub record IsSwapSize (w : View) (i n : ℕ) : Type 0 where
  pub primary : ℕ
  pub secondary : ℕ
  pub of_primary : IsUsed (w.slot i Primary) primary
  pub of_secondary : IsUsed (w.slot i Secondary) secondary
  pub larger : n ≡ max primary secondary

-- The trailer of an image on one side is prepared to count a swap, and says how many bytes the swap
-- moves.
pub record IsReady (w : View) (side : Side) (i : ℕ) : Type 0 where
  pub prepared : IsPrepared w side i
  pub size : ℕ
  pub written : (w.trailer i side).size ≡ Some size
  pub moves : IsSwapSize w i size
