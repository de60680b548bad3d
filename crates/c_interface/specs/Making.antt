-- Images that are made from their values.
use Rattle.std.specs.Prelude.{◌≡◌, ◌==◌, ℕ, ◌<◌, ◌≤◌, Option, None, Some, List, ◌++◌, drop, length, map, take}
use Rattle.std.specs.Prelude.{if◌then◌else◌}
use Rattle.std.specs.List.{AllByRecursion}
use Rattle.common.specs.Limits.{MOST_ALTERNATIVES, MOST_DEPENDENCIES, MOST_GROUPS}
use Rattle.version_order.specs.declared.version.Version.{Version}
use Rattle.version_order.specs.declared.dependency.Dependency.{Dependency}
use Rattle.version_order.specs.declared.group.Group.{Group}
use Rattle.image_reading.specs.Image.{IsIntact, image_bytes}
use Rattle.tlv.specs.Making.{FitsSpec, IsMakeable, description_of, groups_of, image_of}
use Rattle.tlv.specs.declared.make.spec.ImageSpec.{ImageSpec}
use Rattle.c_interface.specs.Numbers.{BAD_IMAGE, DONE, TOO_SMALL}
use Rattle.c_interface.specs.declared.call_result.DependencyRow.{DependencyRow}
use Rattle.c_interface.specs.declared.call_result.VersionRow.{VersionRow}
use Rattle.c_interface.specs.declared.description.GroupRow.{GroupRow}
use Rattle.c_interface.specs.declared.making.ImageParts.{ImageParts}

-- The version of a row.
abbrev pub version_in : VersionRow → Version
version_in row = record {
  major = row.major;
  minor = row.minor;
  revision = row.revision;
  build = row.build;
}

-- The dependency of a row.
abbrev pub dependency_in : DependencyRow → Dependency
dependency_in row = record { image = row.image; minimum = version_in row.minimum }

-- A group of a row has at most 4 alternatives.
abbrev pub HasFewAlternatives : GroupRow → Type 0
HasFewAlternatives row = row.count ≤ MOST_ALTERNATIVES

-- The group of a row.
abbrev pub group_in : GroupRow → Group
group_in row = record {
  alternatives = record { items = map dependency_in (take row.count row.alternatives) };
}

-- The parts have these dependencies, at most 16.
pub record HasDependencies (parts : ImageParts) (dependencies : List Dependency) : Type 0 where
  pub few : parts.dependencies_count ≤ MOST_DEPENDENCIES
  pub each : dependencies ≡ map dependency_in (take parts.dependencies_count parts.dependencies)

-- The parts have these groups, at most 4, each with at most 4 alternatives.
pub record HasGroups (parts : ImageParts) (groups : List Group) : Type 0 where
  pub few : parts.groups_count ≤ MOST_GROUPS
  pub alternatives : AllByRecursion HasFewAlternatives (take parts.groups_count parts.groups)
  pub each : groups ≡ map group_in (take parts.groups_count parts.groups)

-- The security counter of the parts, if they have one.
abbrev pub counter_in : ImageParts → Option ℕ
counter_in parts = if parts.has_counter == 0 then None else Some parts.counter

-- The values of the parts, with this body.
pub record IsSpecOf (parts : ImageParts) (body : List ℕ) (spec : ImageSpec) : Type 0 where
  pub load_address : spec.load_address ≡ parts.load_address
  pub header_size : spec.header_size ≡ parts.header_size
  pub flags : spec.flags ≡ parts.flags
  pub version : spec.version ≡ version_in parts.version
  pub counter : spec.counter ≡ counter_in parts
  pub dependencies : HasDependencies parts spec.dependencies.now
  pub groups : HasGroups parts (groups_of spec.groups.now)
  pub body_is : spec.body.now ≡ body

-- The answer for parts and a body. If they make an image, and it fits in the buffer, it is at the
-- buffer's front, and the bytes after it are as they were. Otherwise the buffer is as it was.
pub data AnswersMaking (parts : ImageParts) (body old new : List ℕ) (out number : ℕ)
    : Type 0 where
  Made : (spec : ImageSpec) → IsSpecOf parts body spec → IsMakeable spec
      → IsIntact (image_bytes (image_of spec)) (description_of spec)
      → out ≡ length (image_bytes (image_of spec))
      → new ≡ image_bytes (image_of spec) ++ drop (length (image_bytes (image_of spec))) old
      → number ≡ DONE → AnswersMaking parts body old new out number
  NoRoom : (spec : ImageSpec) → IsSpecOf parts body spec → IsMakeable spec
      → out ≡ length (image_bytes (image_of spec)) → length old < out → new ≡ old
      → number ≡ TOO_SMALL → AnswersMaking parts body old new out number
  BadImage : ((spec : ImageSpec) → IsSpecOf parts body spec → FitsSpec spec → IsMakeable spec → ⊥)
      → out ≡ 0 → new ≡ old → number ≡ BAD_IMAGE → AnswersMaking parts body old new out number
