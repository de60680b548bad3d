-- The description of an image, as C has it.
use Rattle.std.specs.Prelude.{◌≡◌, ℕ, List, length, replicate, slice_get, Some}
use Rattle.version_order.specs.declared.group.Group.{Group}
use Rattle.image_reading.specs.declared.desc.Desc.{Desc}
use Rattle.image_reading.specs.declared.error.ImageError.{ImageError}
use Rattle.image_reading.specs.Codes.{code_of}
use Rattle.image_reading.specs.Fault.{IsFirstFault, IsFrontFault}
use Rattle.image_reading.specs.Image.{BeginsIntact, IsIntact}
use Rattle.c_interface.specs.declared.description.Description.{Description}
use Rattle.c_interface.specs.declared.description.GroupRow.{GroupRow}
use Rattle.c_interface.specs.CallResult.{AreDependencyRows, IsBlankFrom, no_dependency, no_version}
use Rattle.c_interface.specs.CallResult.{version_row}

-- A group as C has it.
pub record IsGroupRow (group : Group) (row : GroupRow) : Type 0 where
  pub count : row.count ≡ length group.alternatives.items
  pub alternatives : AreDependencyRows group.alternatives.items row.alternatives

-- No group: all zero.
abbrev pub no_group : GroupRow
no_group = record { count = 0; alternatives = replicate 4 no_dependency }

-- The rows of groups, and blank rows after them.
pub record AreGroupRows (groups : List Group) (rows : List GroupRow) : Type 0 where
  pub each : (k : ℕ) (group : Group) → slice_get groups k ≡ Some group
      → (row : GroupRow) × (slice_get rows k ≡ Some row) × IsGroupRow group row
  pub rest : IsBlankFrom (length groups) rows no_group

-- The description if there is no intact image: all zero.
abbrev pub no_description : Description
no_description = record {
  length = 0;
  version = version_row no_version;
  counter = 0;
  flags = 0;
  dependencies_count = 0;
  groups_count = 0;
  dependencies = replicate 16 no_dependency;
  groups = replicate 4 no_group;
  digest = replicate 32 0;
}

-- A description as C has it.
pub record Describes (described : Desc) (description : Description) : Type 0 where
  pub length_is : description.length ≡ described.length
  pub version : description.version ≡ version_row described.version
  pub counter : description.counter ≡ described.counter
  pub flags : description.flags ≡ described.flags
  pub dependencies_count : description.dependencies_count ≡ length described.dependencies.items
  pub groups_count : description.groups_count ≡ length described.groups.items
  pub dependencies : AreDependencyRows described.dependencies.items description.dependencies
  pub groups : AreGroupRows described.groups.items description.groups
  pub digest : description.digest ≡ described.digest

-- The answer for bytes: 0 and their description if they are an intact image, else the number of the
-- first check that fails, 1 to 15, and a blank description.
pub data AnswersDescription (bytes : List ℕ) (description : Description) (number : ℕ) : Type 0 where
  Intact : (described : Desc) → IsIntact bytes described → Describes described description
      → number ≡ 0 → AnswersDescription bytes description number
  Faulty : (fault : ImageError) → IsFirstFault bytes fault → number ≡ code_of fault
      → description ≡ no_description → AnswersDescription bytes description number

-- The answer for a slot: that of the image at its front, whatever follows it.
pub data AnswersFront (slot : List ℕ) (description : Description) (number : ℕ) : Type 0 where
  Begins : (described : Desc) → BeginsIntact slot described → Describes described description
      → number ≡ 0 → AnswersFront slot description number
  Fails : (fault : ImageError) → IsFrontFault slot fault → number ≡ code_of fault
      → description ≡ no_description → AnswersFront slot description number
