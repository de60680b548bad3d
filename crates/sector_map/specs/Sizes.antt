-- Which sizes a map may have: of a sector, and of each image's slots in sectors.
use Rattle.std.specs.Prelude.{◌≡◌, ℕ, ◌+◌, ◌*◌, ◌%◌, ◌^◌, ◌<◌, ◌≤◌, List, slice_index, take}
use Rattle.std.specs.List.{sum}
use Rattle.common.specs.Limits.{MOST_IMAGES}

-- A sector has 512 to 131072 bytes, a multiple of 64.
pub record IsSectorSize (size : ℕ) : Type 0 where
  pub blocks : size % 64 ≡ 0
  pub least : 512 ≤ size
  pub most : size ≤ 131072

-- There are 1 to 8 images, each with at least one sector a slot.
pub record AreImages (images : ℕ) (sectors : List ℕ) : Type 0 where
  pub one : 1 ≤ images
  pub few : images ≤ MOST_IMAGES
  pub some : (i : ℕ) → i < images → 0 < slice_index sectors i

-- Each trailer fits its sector: 3 status units of 8 bytes a sector of its slot, and 56 bytes.
abbrev pub HoldTrailers : ℕ → List ℕ → Type 0
HoldTrailers size sectors = (i : ℕ) → 24 * slice_index sectors i + 56 ≤ size

-- How many sectors of a side are before an image: earlier slots, each with its trailer's sector.
unfoldable pub before : List ℕ → ℕ → ℕ
before sectors i = sum (take i sectors) + i

-- How many sectors there are in all: two sides, scratch, and the log's three.
abbrev pub all_sectors : ℕ → List ℕ → ℕ
all_sectors images sectors = 2 * before sectors images + 4

-- There are at most 4294967295 bytes in all.
abbrev pub AreAddressed : ℕ → ℕ → List ℕ → Type 0
AreAddressed size images sectors = all_sectors images sectors * size < 2 ^ 32

-- Sectors of this size and images with these sectors a slot make a map; it lacks further images.
pub record MakeMap (size images : ℕ) (sectors : List ℕ) : Type 0 where
  pub sector : IsSectorSize size
  pub counts : AreImages images sectors
  pub trailers : HoldTrailers size sectors
  pub addressed : AreAddressed size images sectors
  pub lacks : (i : ℕ) → images ≤ i → slice_index sectors i ≡ 0
