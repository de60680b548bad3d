-- The text of a version.
use Rattle.std.specs.Prelude.{◌≡◌, ℕ, ◌^◌, ◌<◌, ◌⊎◌, List, ◌∷◌, ◌++◌, Option, Some, decimal, option_and_then}
use Rattle.std.specs.Option.{option_map_or}
use Rattle.version_order.specs.declared.version.Version.{Version}
use Rattle.common.specs.Ascii.{number_below, cut}

-- Each part of the version fits its field.
pub record FitsFields (version : Version) : Type 0 where
  pub major : version.major < 2 ^ 8
  pub minor : version.minor < 2 ^ 8
  pub revision : version.revision < 2 ^ 16
  pub build : version.build < 2 ^ 32

-- A version as it is printed: `major.minor.revision+build` (46 is a full stop, 43 a plus sign).
abbrev pub version_text : Version → List ℕ
version_text version =
    decimal version.major ++ 46 ∷ (decimal version.minor ++ 46 ∷ (decimal version.revision
    ++ 43 ∷ decimal version.build))

-- The text of a version up to the revision.
abbrev pub revision_text : Version → List ℕ
revision_text version =
    decimal version.major ++ 46 ∷ (decimal version.minor ++ 46 ∷ decimal version.revision)

-- The text of a version up to the minor version.
abbrev pub minor_text : Version → List ℕ
minor_text version = decimal version.major ++ 46 ∷ decimal version.minor

-- A text spells a version: the parts fit their fields, and it is the version's text, possibly
-- without last parts that are 0.
abbrev pub IsVersionText : List ℕ → Version → Type 0
IsVersionText text version = FitsFields version × ((text ≡ version_text version)
    ⊎ (((version.build ≡ 0) × (text ≡ revision_text version))
    ⊎ (((version.revision ≡ 0) × (version.build ≡ 0) × (text ≡ minor_text version))
    ⊎ ((version.minor ≡ 0) × (version.revision ≡ 0) × (version.build ≡ 0)
    × (text ≡ decimal version.major)))))

abbrev pub version_from : ℕ → ℕ → ℕ → ℕ → Version
version_from major minor revision build =
    record { major = major; minor = minor; revision = revision; build = build }

-- What `next` makes of the number before the first separator, which is below the limit, and of the
-- text after the separator, if there is one.
abbrev pub part_at : ℕ → ℕ → (ℕ → Option (List ℕ) → Option Version) → List ℕ → Option Version
part_at limit separator next text =
    let parts = cut separator text in
    option_and_then (λ number. next number parts.1) (number_below limit parts.0)

-- Reads the rest of a version after the revision: the build number, or none, which is 0.
abbrev pub build_at : ℕ → ℕ → ℕ → Option (List ℕ) → Option Version
build_at major minor revision rest =
    let from = λ (build : ℕ). Some (version_from major minor revision build) in
    option_map_or (λ text. option_and_then from (number_below (2 ^ 32) text)) rest (from 0)

-- Reads the rest of a version after the minor version: the revision and what follows it, or none.
abbrev pub revision_at : ℕ → ℕ → Option (List ℕ) → Option Version
revision_at major minor rest =
    option_map_or (part_at (2 ^ 16) 43 (build_at major minor)) rest
    (Some (version_from major minor 0 0))

-- Reads the rest of a version after the major version: the minor version and the rest, or none.
abbrev pub minor_at : ℕ → Option (List ℕ) → Option Version
minor_at major rest =
    option_map_or (part_at (2 ^ 8) 46 (revision_at major)) rest (Some (version_from major 0 0 0))

-- The version that a text spells, read from left to right.
unfoldable pub version_of : List ℕ → Option Version
version_of text = part_at (2 ^ 8) 46 minor_at text
