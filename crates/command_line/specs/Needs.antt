-- The dependencies that are read from the words of a text.
use Rattle.std.specs.Prelude.{◌≡◌, ◌==◌, ◌-◌, ◌&&◌, ℕ, Bool, List, [], ◌∷◌, Option, Some, None, drop, if◌then◌else◌, length, nat_le, option_and_then, option_map, slice_index, take}
use Rattle.std.specs.List.{slice_split}
use Rattle.clap.specs.Words.{Text}
use Rattle.common.specs.Ascii.{cut, number_below}
use Rattle.version_order.specs.declared.dependency.Dependency.{Dependency}
use Rattle.version_order.specs.declared.version.Version.{Version}
use Rattle.version_order.specs.VersionText.{version_of}

-- The words of a text that are separated by spaces.
abbrev pub spaced : Text → List Text
spaced text = slice_split (λ byte. byte == 32) text

-- The dependency on this image in this version.
abbrev pub dependency_on : ℕ → Version → Dependency
dependency_on image minimum = record { image = image; minimum = minimum }

-- The dependency that two words name: the number of an image, and the lowest version that is
-- enough.
abbrev pub need_of : Text → Text → Option Dependency
need_of image minimum =
    option_and_then (λ number. option_map (dependency_on number) (version_of minimum))
    (number_below 256 image)

-- The dependencies that words name, two words for each.
unfoldable pub needs_of : List Text → Option (List Dependency)
needs_of [] = Some []
needs_of (image ∷ []) = None
needs_of (image ∷ minimum ∷ words) =
    option_and_then (λ need. option_map (λ needs. need ∷ needs) (needs_of words))
    (need_of image minimum)

-- A text names these dependencies.
abbrev pub AreNeeds : Text → List Dependency → Type 0
AreNeeds text needs = needs_of (spaced text) ≡ Some needs

-- A text names only this dependency.
abbrev pub IsNeed : Text → Dependency → Type 0
IsNeed text need = AreNeeds text (need ∷ [])

-- A text without the space with which it may begin.
abbrev pub without_space : Text → Text
without_space [] = []
without_space (byte ∷ text) = if byte == 32 then text else byte ∷ text

-- The dependency between brackets: the number of an image, a comma, which a space may follow, and
-- the lowest version that is enough.
abbrev pub need_between : Text → Option Dependency
need_between text =
    option_and_then (λ minimum. need_of (cut 44 text).0 (without_space minimum)) (cut 44 text).1

-- A text begins with an opening bracket and ends with a closing one.
abbrev pub is_bracketed : Text → Bool
is_bracketed text =
    nat_le 2 (length text) && slice_index text 0 == 40 && slice_index text (length text - 1) == 41

-- The text between brackets.
abbrev pub between_brackets : Text → Option Text
between_brackets text =
    if is_bracketed text then Some (take (length text - 2) (drop 1 text)) else None

-- The dependency that a text in brackets names.
abbrev pub bracketed_need : Text → Option Dependency
bracketed_need text = option_and_then need_between (between_brackets text)

-- A text in brackets names this dependency.
abbrev pub IsBracketed : Text → Dependency → Type 0
IsBracketed text need = bracketed_need text ≡ Some need
