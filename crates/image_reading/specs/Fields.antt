-- The fields that entries hold, by the values of the entries of their type.
use Rattle.std.specs.Prelude.{◌≡◌, ℕ, ◌*◌, ◌^◌, ◌<◌, ◌≤◌, ◌⊎◌, List, [], ◌∷◌, length, map, take, drop, slice_index}
use Rattle.std.specs.List.{AllByRecursion, flat_map}
use Rattle.byteorder.specs.Endian.{little_bytes}
use Rattle.sha2.specs.Sha256.{sha256}
use Rattle.common.specs.Limits.{MOST_ALTERNATIVES, MOST_DEPENDENCIES, MOST_GROUPS}
use Rattle.version_order.specs.declared.dependency.Dependency.{Dependency}
use Rattle.version_order.specs.declared.group.Group.{Group}
use Rattle.version_order.specs.VersionText.{FitsFields}
use Rattle.image_header.specs.Header.{version_bytes}
use Rattle.image_reading.specs.declared.error.ImageError.TheVariants.{NoDigest, TwoDigests, BadDigest, BadDependency, TooManyDependencies, BadCounter, TooManyGroups}
use Rattle.image_reading.specs.Checks.{Check}

-- The type of a digest entry (`IMAGE_TLV_SHA256`).
abbrev pub digest_kind : ℕ
digest_kind = 0x10

-- The type of a dependency entry (`IMAGE_TLV_DEPENDENCY`).
abbrev pub dependency_kind : ℕ
dependency_kind = 0x40

-- The type of a security counter entry (`IMAGE_TLV_SEC_CNT`).
abbrev pub counter_kind : ℕ
counter_kind = 0x50

-- The type of a group entry, which is bootswap's own.
abbrev pub group_kind : ℕ
group_kind = 0xA0

-- ---- the digest

-- There is one value, the SHA-256 of these bytes (FIPS 180-4).
abbrev pub SpellDigest : List (List ℕ) → List ℕ → Type 0
SpellDigest values hashed = values ≡ sha256 hashed ∷ []

-- The checks of digest entries, in order, by their values and the bytes to hash.
abbrev pub digest_checks : List (List ℕ) → List ℕ → List Check
digest_checks values hashed =
    (1 ≤ length values, NoDigest) ∷ (length values ≤ 1, TwoDigests)
    ∷ (SpellDigest values hashed, BadDigest) ∷ []

-- ---- dependencies

-- The 12 bytes of a dependency: the image's number, three zero bytes, the minimum version.
abbrev pub dependency_bytes : Dependency → List ℕ
dependency_bytes dependency = dependency.image ∷ 0 ∷ 0 ∷ 0 ∷ version_bytes dependency.minimum

-- The numbers of a dependency fit their fields.
pub record FitsDependency (dependency : Dependency) : Type 0 where
  pub image : dependency.image < 2 ^ 8
  pub minimum : FitsFields dependency.minimum

-- Values spell these dependencies, in order.
pub record SpellDependencies (values : List (List ℕ)) (dependencies : List Dependency)
    : Type 0 where
  pub fit : AllByRecursion FitsDependency dependencies
  pub spelled : values ≡ map dependency_bytes dependencies

-- A value has the form of a dependency: 12 bytes, with zero in the three after the image's number.
pub record IsDependencyForm (value : List ℕ) : Type 0 where
  pub size : length value ≡ 12
  pub first : slice_index value 1 ≡ 0
  pub second : slice_index value 2 ≡ 0
  pub third : slice_index value 3 ≡ 0

-- ---- groups

-- The bytes of dependencies, one after the other.
abbrev pub alternatives_bytes : List Dependency → List ℕ
alternatives_bytes alternatives = flat_map dependency_bytes alternatives

-- The bytes of a group: those of its alternatives, each as of a dependency.
abbrev pub group_bytes : Group → List ℕ
group_bytes group = flat_map dependency_bytes group.alternatives.items

-- A group has 1 to 4 alternatives, and the numbers of each fit their fields.
pub record FitsGroup (group : Group) : Type 0 where
  pub some : 1 ≤ length group.alternatives.items
  pub most : length group.alternatives.items ≤ MOST_ALTERNATIVES
  pub fit : AllByRecursion FitsDependency group.alternatives.items

-- Values spell these groups, in order.
pub record SpellGroups (values : List (List ℕ)) (groups : List Group) : Type 0 where
  pub fit : AllByRecursion FitsGroup groups
  pub spelled : values ≡ map group_bytes groups

-- A value has the form of a group: 1 to 4 pieces of 12 bytes, each in the form of a dependency.
pub record IsGroupForm (value : List ℕ) : Type 0 where
  pub count : ℕ
  pub some : 1 ≤ count
  pub most : count ≤ MOST_ALTERNATIVES
  pub size : length value ≡ 12 * count
  pub each : (k : ℕ) → k < count → IsDependencyForm (take 12 (drop (12 * k) value))

-- ---- dependencies and groups

-- Values spell some dependencies, and others some groups.
abbrev pub HaveForms : List (List ℕ) → List (List ℕ) → Type 0
HaveForms values others = ((dependencies : List Dependency) × SpellDependencies values dependencies)
    × ((groups : List Group) × SpellGroups others groups)

-- The checks of dependencies and groups, in order, by the values of each.
abbrev pub need_checks : List (List ℕ) → List (List ℕ) → List Check
need_checks values others =
    (HaveForms values others, BadDependency)
    ∷ (length values ≤ MOST_DEPENDENCIES, TooManyDependencies)
    ∷ (length others ≤ MOST_GROUPS, TooManyGroups) ∷ []

-- ---- the security counter

-- The 4 bytes of a security counter.
abbrev pub counter_bytes : ℕ → List ℕ
counter_bytes counter = little_bytes 4 counter

-- There is one value, which spells this counter, or none, and the counter is 0.
abbrev pub SpellCounter : List (List ℕ) → ℕ → Type 0
SpellCounter values counter = (counter < 2 ^ 32)
    × (((values ≡ []) × (counter ≡ 0)) ⊎ (values ≡ little_bytes 4 counter ∷ []))

-- The check of security counters, by their values.
abbrev pub counter_check : List (List ℕ) → List Check
counter_check values = ((counter : ℕ) × SpellCounter values counter, BadCounter) ∷ []
