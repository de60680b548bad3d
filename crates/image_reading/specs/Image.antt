-- Images: header, body, protected area and unprotected area, one after the other (MCUboot, design
-- document, "Image format").
use Rattle.std.specs.Prelude.{◌≡◌, ℕ, ◌+◌, ◌==◌, List, [], ◌++◌, length, if◌then◌else◌}
use Rattle.sha2.specs.Sha256.{sha256}
use Rattle.image_header.specs.declared.header.Header.{Header}
use Rattle.image_header.specs.Header.{FitsHeader, IsAccepted, header_bytes}
use Rattle.image_reading.specs.declared.desc.Desc.{Desc}
use Rattle.image_reading.specs.Checks.{AllPass, Check}
use Rattle.image_reading.specs.Area.{Entry, FitsArea, area_bytes, protected_magic, unprotected_magic, values_of}
use Rattle.image_reading.specs.Fields.{SpellCounter, SpellDependencies, SpellGroups, counter_check, counter_kind, dependency_kind, digest_checks, digest_kind, group_kind, need_checks}

-- The parts of an image.
pub record Image : Type 0 where
  pub header : Header
  -- The bytes after the header's fields, up to the header's length.
  pub filler : List ℕ
  pub body : List ℕ
  pub protected : List Entry
  pub unprotected : List Entry

-- The bytes of the protected area, which is absent if its length is 0.
abbrev pub protected_bytes : Image → List ℕ
protected_bytes image =
    if image.header.protected_size == 0 then [] else area_bytes protected_magic image.protected

-- What the digest is taken of: header, body and protected area.
abbrev pub hashed_bytes : Image → List ℕ
hashed_bytes image =
    header_bytes image.header ++ (image.filler ++ (image.body ++ protected_bytes image))

-- The bytes of an image.
abbrev pub image_bytes : Image → List ℕ
image_bytes image = hashed_bytes image ++ area_bytes unprotected_magic image.unprotected

-- The header says how long each part is, and is accepted.
pub record IsWellFormed (image : Image) : Type 0 where
  pub fits : FitsHeader image.header
  pub accepted : IsAccepted image.header
  pub header_size : 32 + length image.filler ≡ image.header.header_size
  pub body_size : length image.body ≡ image.header.body_size
  pub protected_size : length (protected_bytes image) ≡ image.header.protected_size
  pub protected : FitsArea image.protected
  pub unprotected : FitsArea image.unprotected
  -- An area that is absent has no entries.
  pub absent : image.header.protected_size ≡ 0 → image.protected ≡ []

-- Bytes begin with this image, and these follow it.
pub record BeginsWithImage (bytes : List ℕ) (image : Image) (trailing : List ℕ) : Type 0 where
  pub formed : IsWellFormed image
  pub parts : bytes ≡ image_bytes image ++ trailing

-- The values of dependency entries, which are read in the protected area only.
abbrev pub dependency_values : Image → List (List ℕ)
dependency_values image = values_of dependency_kind image.protected

-- The values of group entries, which are read in the protected area only.
abbrev pub group_values : Image → List (List ℕ)
group_values image = values_of group_kind image.protected

-- The values of security counter entries, which are read in the protected area only.
abbrev pub counter_values : Image → List (List ℕ)
counter_values image = values_of counter_kind image.protected

-- The checks of an image's entries, in order; digests are read in the unprotected area only, and
-- entries of other types are skipped.
abbrev pub entry_checks : Image → List Check
entry_checks image = digest_checks (values_of digest_kind image.unprotected) (hashed_bytes image)
    ++ need_checks (dependency_values image) (group_values image)
    ++ counter_check (counter_values image)

-- A description says what an image says of itself.
pub record Describes (image : Image) (description : Desc) : Type 0 where
  pub version : description.version ≡ image.header.version
  pub flags : description.flags ≡ image.header.flags
  pub length_of : description.length ≡ length (image_bytes image)
  pub digest : description.digest ≡ sha256 (hashed_bytes image)
  pub dependencies : SpellDependencies (dependency_values image) description.dependencies.items
  pub groups : SpellGroups (group_values image) description.groups.items
  pub counter : SpellCounter (counter_values image) description.counter

-- The complete bytes are an intact image, of which this is the description.
abbrev pub IsIntact : List ℕ → Desc → Type 0
IsIntact bytes description = (image : Image)
    × BeginsWithImage bytes image [] × Describes image description × AllPass (entry_checks image)

-- Bytes begin with an intact image, of which this is the description, whatever follows it.
abbrev pub BeginsIntact : List ℕ → Desc → Type 0
BeginsIntact bytes description = (front : List ℕ) × (rest : List ℕ)
    × (bytes ≡ front ++ rest) × IsIntact front description
