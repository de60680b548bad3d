-- The image at the beginning of bytes, whatever values its entries have and whatever follows it.
use Rattle.std.specs.Prelude.{◌≡◌, ℕ, ◌<◌, ◌≤◌, ◌⊎◌, List, [], length, drop, Some}
use Rattle.flash_model.specs.Chip.{Chip}
use Rattle.image_reading.specs.declared.desc.Desc.{Desc}
use Rattle.image_reading.specs.declared.front.Front.{Front}
use Rattle.image_reading.specs.Area.{entries_bytes, protected_magic}
use Rattle.image_reading.specs.Fault.{IsArea, entries_at}
use Rattle.image_reading.specs.Gathered.{HasGatheredProtected, HasGatheredUnprotected}
use Rattle.image_reading.specs.Image.{Image, BeginsWithImage, hashed_bytes, image_bytes}
use Rattle.image_reading.specs.Span.{CanRead, bytes_of}

-- These are the bytes of the entries of a protected area at a place.
abbrev pub LiesProtected : List ℕ → ℕ → ℕ → List ℕ → Type 0
LiesProtected bytes place size entries = (0 < size)
    × IsArea bytes place protected_magic (Some size) × (entries ≡ entries_at bytes place)

-- These are the bytes of the entries of a protected area, or none if its length of 0 says that it
-- is absent.
abbrev pub IsProtected : List ℕ → ℕ → ℕ → List ℕ → Type 0
IsProtected bytes place size entries =
    ((size ≡ 0) × (entries ≡ [])) ⊎ LiesProtected bytes place size entries

-- These are the parts of the image at the beginning of bytes of a chip.
pub record IsFrontOf (chip : Chip) (bytes : List ℕ) (front : Front) (image : Image) : Type 0 where
  pub begins : BeginsWithImage bytes image (drop front.length bytes)
  pub header : front.header ≡ image.header
  pub hashed : bytes_of chip front.hashed ≡ hashed_bytes image
  pub protected : bytes_of chip front.protected.entries ≡ entries_bytes image.protected
  pub unprotected : bytes_of chip front.unprotected.entries ≡ entries_bytes image.unprotected
  pub length_of : front.length ≡ length (image_bytes image)
  pub within : front.length ≤ length bytes

abbrev pub IsFront : Chip → List ℕ → Front → Type 0
IsFront chip bytes front = (image : Image) × IsFrontOf chip bytes front image

-- The bytes that the digest covers can be read, and the fields of both areas were gathered. The
-- dependencies and the groups are in a description.
pub record HasGathered (chip : Chip) (front : Front) (description : Desc) : Type 0 where
  pub hashed : CanRead chip front.hashed
  pub protected : HasGatheredProtected chip front.protected description
  pub unprotected : HasGatheredUnprotected chip front.unprotected
