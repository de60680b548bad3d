-- The texts of a dependency and of a group.
use Rattle.std.specs.Prelude.{◌≡◌, ℕ, ◌^◌, ◌<◌, ◌≤◌, List, [], ◌∷◌, ◌++◌, length, codes, decimal}
use Rattle.std.specs.List.{AllByRecursion}
use Rattle.common.specs.Limits.{MOST_ALTERNATIVES}
use Rattle.common.specs.Lines.{◌␣◌}
use Rattle.version_order.specs.declared.version.Version.{Version}
use Rattle.version_order.specs.declared.dependency.Dependency.{Dependency}
use Rattle.version_order.specs.declared.group.Group.{Group}
use Rattle.version_order.specs.VersionText.{FitsFields, version_text, IsVersionText}

-- The printed text of a dependency: `needs J VERSION`.
abbrev pub needs_text : Dependency → List ℕ
needs_text dependency =
    codes "needs" ␣ decimal dependency.image ␣ version_text dependency.minimum

-- A text is this word, the number of an image, and any text of a version.
abbrev pub IsVersionLine : List ℕ → List ℕ → ℕ → Version → Type 0
IsVersionLine text word image version =
    (image < 2 ^ 8)
    × (spelled : List ℕ) × IsVersionText spelled version × (text ≡ word ␣ decimal image ␣ spelled)

-- A text of a dependency.
abbrev pub IsNeedsText : List ℕ → Dependency → Type 0
IsNeedsText text dependency =
    IsVersionLine text (codes "needs") dependency.image dependency.minimum

-- The numbers of a dependency fit their fields.
abbrev pub FitsDependency : Dependency → Type 0
FitsDependency dependency = (dependency.image < 2 ^ 8) × FitsFields dependency.minimum

-- A group has one to four alternatives.
pub record HasFewAlternatives (group : Group) : Type 0 where
  pub some : 1 ≤ length group.alternatives.items
  pub most : length group.alternatives.items ≤ MOST_ALTERNATIVES

-- The printed text of alternatives: for each a space, the number of its image, a space, and its
-- version.
unfoldable pub alternatives_text : List Dependency → List ℕ
alternatives_text [] = []
alternatives_text (alternative ∷ alternatives) =
    32 ∷ ((decimal alternative.image ␣ version_text alternative.minimum)
    ++ alternatives_text alternatives)

-- The printed text of a group: `needs-one J VERSION ..`
abbrev pub needs_one_text : Group → List ℕ
needs_one_text group = codes "needs-one" ++ alternatives_text group.alternatives.items

-- A text of these alternatives: for each a space, the number of its image, a space, and any text of
-- its version.
unfoldable pub AreAlternativesText : List ℕ → List Dependency → Type 0
AreAlternativesText text [] = text ≡ []
AreAlternativesText text (alternative ∷ alternatives) =
    (alternative.image < 2 ^ 8)
    × (spelled : List ℕ) × (rest : List ℕ)
    × IsVersionText spelled alternative.minimum × AreAlternativesText rest alternatives
    × (text ≡ 32 ∷ ((decimal alternative.image ␣ spelled) ++ rest))

-- A text of a group.
abbrev pub IsNeedsOneText : List ℕ → Group → Type 0
IsNeedsOneText text group =
    HasFewAlternatives group
    × (spelled : List ℕ) × AreAlternativesText spelled group.alternatives.items
    × (text ≡ codes "needs-one" ++ spelled)

-- A group that has a text: it has one to four alternatives, and their numbers fit their fields.
abbrev pub FitsGroup : Group → Type 0
FitsGroup group =
    HasFewAlternatives group × AllByRecursion FitsDependency group.alternatives.items
