-- The fields that a walk over the entries of an area has gathered. Of all values of a type, those
-- before the remaining ones were read.
use Rattle.std.specs.Prelude.{◌≡◌, ℕ, ◌≤◌, Bool, true, false, ltb, List, [], ◌∷◌, ◌++◌, length, map, take, ⊤}
use Rattle.std.specs.List.{AllByRecursion, Any}
use Rattle.common.specs.Limits.{MOST_DEPENDENCIES, MOST_GROUPS}
use Rattle.flash_model.specs.Chip.{Chip}
use Rattle.version_order.specs.declared.dependency.Dependency.{Dependency}
use Rattle.version_order.specs.declared.group.Group.{Group}
use Rattle.image_reading.specs.declared.desc.Desc.{Desc}
use Rattle.image_reading.specs.declared.gathering.Occurrence.{Occurrence}
use Rattle.image_reading.specs.declared.gathering.Occurrence.TheVariants.{Absent, Once, Repeated}
use Rattle.image_reading.specs.declared.gathering.ProtectedFields.{ProtectedFields}
use Rattle.image_reading.specs.declared.gathering.UnprotectedFields.{UnprotectedFields}
use Rattle.image_reading.specs.declared.met.ItemFaults.{ItemFaults}
use Rattle.image_reading.specs.Fields.{FitsDependency, FitsGroup, IsDependencyForm, IsGroupForm, SpellDependencies, SpellGroups, counter_kind, dependency_bytes, dependency_kind, digest_kind, group_bytes, group_kind}
use Rattle.image_reading.specs.SlotTlvs.{values_at}
use Rattle.image_reading.specs.Span.{CanRead, bytes_of}

-- No value was read. Or one was, whose span can be read. Or there are two or more.
abbrev pub IsOccurrence : Chip → List (List ℕ) → List (List ℕ) → Occurrence → Type 0
IsOccurrence chip values left Absent = values ≡ left
IsOccurrence chip values left (Once value) =
    (values ≡ bytes_of chip value ∷ left) × CanRead chip value
IsOccurrence chip values left Repeated = 2 ≤ length values

-- If there is one value, it can be read.
abbrev pub CanReadOccurrence : Chip → Occurrence → Type 0
CanReadOccurrence chip (Once value) = CanRead chip value
CanReadOccurrence chip other = ⊤

-- How values of a type encode items: which items fit, their bytes, and the form of such bytes.
pub record Spelling (X : Type 0) : Type 1 where
  pub Fits : X → Type 0
  pub bytes : X → List ℕ
  pub IsForm : List ℕ → Type 0

abbrev pub dependency_spelling : Spelling Dependency
dependency_spelling = record {
  Fits = FitsDependency;
  bytes = dependency_bytes;
  IsForm = IsDependencyForm;
}

abbrev pub group_spelling : Spelling Group
group_spelling = record { Fits = FitsGroup; bytes = group_bytes; IsForm = IsGroupForm }

-- The values that were read encode items. The first items are kept: no more than an image may have.
pub record AreKept {X : Type 0} (spelling : Spelling X) (most : ℕ) (values left : List (List ℕ))
    (items : List X) (too_many : Bool) : Type 0 where
  pub found : List X
  pub fit : AllByRecursion spelling.Fits found
  pub spelled : values ≡ map spelling.bytes found ++ left
  pub first : items ≡ take most found
  pub over : too_many ≡ ltb most (length found)

-- The values encode items, or it was recorded that a value doesn't have the form of one.
pub record HasMet {X : Type 0} (spelling : Spelling X) (most : ℕ) (values left : List (List ℕ))
    (items : List X) (faults : ItemFaults) : Type 0 where
  pub bad : faults.bad ≡ true → Any (λ value. spelling.IsForm value → ⊥) values
  pub kept : faults.bad ≡ false → AreKept spelling most values left items faults.too_many

-- Dependencies were read.
abbrev pub HaveMetDependencies : List (List ℕ) → List (List ℕ) → List Dependency
    → ItemFaults → Type 0
HaveMetDependencies values left items faults =
    HasMet dependency_spelling MOST_DEPENDENCIES values left items faults

-- Groups were read.
abbrev pub HaveMetGroups : List (List ℕ) → List (List ℕ) → List Group → ItemFaults → Type 0
HaveMetGroups values left items faults = HasMet group_spelling MOST_GROUPS values left items faults

-- Values encode the dependencies of a description and others its groups, no more than an image may
-- have.
pub record AreNeeds (values others : List (List ℕ)) (description : Desc) : Type 0 where
  pub dependencies : SpellDependencies values description.dependencies.items
  pub groups : SpellGroups others description.groups.items
  pub few_dependencies : length description.dependencies.items ≤ MOST_DEPENDENCIES
  pub few_groups : length description.groups.items ≤ MOST_GROUPS

-- No dependency and no group was gathered yet.
pub record HasNoNeeds (description : Desc) : Type 0 where
  pub dependencies : description.dependencies.items ≡ []
  pub groups : description.groups.items ≡ []

-- The dependencies, the groups and the security counter of a protected area were gathered. The
-- dependencies and the groups are in a description.
pub record HasGatheredProtected (chip : Chip) (fields : ProtectedFields) (description : Desc)
    : Type 0 where
  pub dependencies : HaveMetDependencies (values_at dependency_kind chip fields.entries) []
      description.dependencies.items fields.dependencies
  pub groups : HaveMetGroups (values_at group_kind chip fields.entries) []
      description.groups.items fields.groups
  pub counter : IsOccurrence chip (values_at counter_kind chip fields.entries) [] fields.counter

-- The digest of an unprotected area was gathered.
abbrev pub HasGatheredUnprotected : Chip → UnprotectedFields → Type 0
HasGatheredUnprotected chip fields =
    IsOccurrence chip (values_at digest_kind chip fields.entries) [] fields.digest
