-- Combinations: sets of images whose requests are taken. Any test of image numbers is a set; only a
-- valid one has intact requests for all its members.
use Rattle.std.specs.Prelude.{ℕ, ◌≤◌, Bool, false, ◌&&◌, not, IsTrue, Option, Some, None, unwrap_or, IsSomeAnd, IfSome, slice_get, if◌then◌else◌}
use Rattle.std.specs.List.{list_all, list_any}
use Rattle.std.specs.Option.{option_map_or}
use Rattle.version_order.specs.declared.version.Version.{Version}
use Rattle.version_order.specs.declared.dependency.Dependency.{Dependency}
use Rattle.version_order.specs.declared.group.Group.{Group}
use Rattle.version_order.specs.Order.{is_older, IsAtLeast}
use Rattle.reports.specs.declared.table.Entry.{Entry}
use Rattle.reports.specs.declared.table.Request.{Request}
use Rattle.reports.specs.declared.table.Request.TheVariants as request
use Rattle.reports.specs.declared.table.Image.{Image}
use Rattle.reports.specs.declared.table.Table.{Table}

-- Image j of a table, if the table has it.
abbrev pub image_at : Table → ℕ → Option Image
image_at table j = slice_get table.images.items j

-- The entry of the intact image that a request asks for, if there is one.
abbrev pub intact_entry : Request → Option Entry
intact_entry request.None = None
intact_entry request.Damaged = None
intact_entry (request.Entry entry) = Some entry

-- Image j has an intact request of which P holds.
abbrev pub RequestMeets : Table → ℕ → (Image → Entry → Type 0) → Type 0
RequestMeets table j P =
    IsSomeAnd (image_at table j)
    (λ image. IsSomeAnd (intact_entry image.request) (λ entry. P image entry))

-- The entry of an image in a combination: the intact request of a member, else what runs.
abbrev pub entry_in : Image → Bool → Entry
entry_in image is_member =
    if is_member then unwrap_or (intact_entry image.request) image.running else image.running

-- Whether image j has at least this version in a combination.
abbrev pub reaches : (ℕ → Bool) → ℕ → Version → Image → Bool
reaches taken j minimum image = not (is_older (entry_in image (taken j)).version minimum)

-- Whether a combination has the image, not below the minimum (MCUboot, dependency check).
abbrev pub is_met : Table → (ℕ → Bool) → Dependency → Bool
is_met table taken dependency =
    option_map_or (reaches taken dependency.image dependency.minimum)
    (image_at table dependency.image) false

-- Whether a combination meets a group: at least one of its alternatives, as a dependency.
abbrev pub is_group_met : Table → (ℕ → Bool) → Group → Bool
is_group_met table taken group = list_any (is_met table taken) group.alternatives.items

-- Whether a combination meets all dependencies and all groups of an entry.
abbrev pub meets_all : Table → (ℕ → Bool) → Entry → Bool
meets_all table taken entry =
    list_all (is_met table taken) entry.dependencies.items
    && list_all (is_group_met table taken) entry.groups.items

-- The entry isn't older, and its counter isn't below the floor (MCUboot, downgrade prevention).
abbrev pub MayReplace : Image → Entry → Type 0
MayReplace image entry =
    IsAtLeast entry.version image.running.version × (image.floor ≤ entry.counter)

-- Image j has an intact request that may replace it.
abbrev pub IsAcceptable : Table → ℕ → Type 0
IsAcceptable table j = RequestMeets table j MayReplace

-- A combination meets all dependencies and groups of the entry that it has for image j.
abbrev pub HasMetDependencies : Table → (ℕ → Bool) → ℕ → Type 0
HasMetDependencies table taken j =
    IfSome (image_at table j) (λ image. IsTrue (meets_all table taken (entry_in image (taken j))))

-- Each member has a request that may replace it, and the dependencies and groups of each image,
-- member or not, are met (MCUboot, multiple image boot).
pub record IsValid (table : Table) (taken : ℕ → Bool) : Type 0 where
  pub members : (j : ℕ) → IsTrue (taken j) → IsAcceptable table j
  pub met : (j : ℕ) → HasMetDependencies table taken j

-- The combination that takes no request: the running images.
abbrev pub running_set : ℕ → Bool
running_set j = false

-- The greatest combination is valid and contains every valid one.
pub record IsGreatest (table : Table) (taken : ℕ → Bool) : Type 0 where
  pub valid : IsValid table taken
  pub contains :
      (other : ℕ → Bool) → IsValid table other → (j : ℕ) → IsTrue (other j) → IsTrue (taken j)

-- Image j isn't older in one combination than in another.
abbrev pub IsAtLeastIn : Table → (ℕ → Bool) → (ℕ → Bool) → ℕ → Type 0
IsAtLeastIn table taken other j =
    IfSome (image_at table j)
    (λ image. IsAtLeast (entry_in image (taken j)).version (entry_in image (other j)).version)
