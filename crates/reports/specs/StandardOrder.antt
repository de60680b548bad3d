-- The order in which a choice lists its refusals: of all founded lists the one that is printed.
use Rattle.std.specs.Prelude.{◌≡◌, ℕ, ◌<◌, Bool, false, List, ◌++◌, take, Option, Some, None, option_map, option_and_then, is_none, nat_lt, find, filter_map, IfSome, slice_get, if◌then◌else◌}
use Rattle.std.specs.List.{enumerate_from}
use Rattle.std.specs.Option.{option_or}
use Rattle.version_order.specs.declared.dependency.Dependency.{Dependency}
use Rattle.version_order.specs.Order.{is_older}
use Rattle.reports.specs.declared.table.Entry.{Entry}
use Rattle.reports.specs.declared.table.Request.{Request}
use Rattle.reports.specs.declared.table.Request.TheVariants as request
use Rattle.reports.specs.declared.table.Image.{Image}
use Rattle.reports.specs.declared.table.Table.{Table}
use Rattle.reports.specs.declared.report.Reason.{Reason}
use Rattle.reports.specs.declared.report.Reason.TheVariants.{Damaged, Older, Counter, NoSuchImage, Needs, NeedsOne}
use Rattle.reports.specs.declared.report.Refusal.{Refusal}
use Rattle.reports.specs.Combination.{image_at, intact_entry}
use Rattle.reports.specs.Reasons.{is_refused, is_group_out_of_reach, is_out_of_reach}

-- Whether a dependency is on an image that the table doesn't have.
abbrev pub is_missing : Table → Dependency → Bool
is_missing table dependency = is_none (image_at table dependency.image)

-- The first dependency on an image that the table doesn't have, as a reason.
abbrev pub missing_image : Table → Entry → Option Reason
missing_image table entry =
    option_map (λ dependency. NoSuchImage dependency.image)
    (find (is_missing table) entry.dependencies.items)

-- The first of Older, Counter and NoSuchImage that holds of an image's intact request.
abbrev pub own_reason_of_entry : Table → Image → Entry → Option Reason
own_reason_of_entry table image entry =
    if is_older entry.version image.running.version then Some Older
    else (if nat_lt entry.counter image.floor then Some Counter else missing_image table entry)

-- The first reason that holds without other refusals: Damaged, Older, Counter or NoSuchImage.
abbrev pub own_reason : Table → Image → Request → Option Reason
own_reason table image request.None = None
own_reason table image request.Damaged = Some Damaged
own_reason table image (request.Entry entry) = own_reason_of_entry table image entry

-- The refusal of a numbered image for its own reason, if there is one.
abbrev pub own_refusal : Table → ℕ × Image → Option Refusal
own_refusal table numbered =
    option_map (λ reason. record { image = numbered.0; reason = reason })
    (own_reason table numbered.1 numbered.1.request)

-- All refusals for own reasons, by ascending image number.
abbrev pub own_refusals : Table → List Refusal
own_refusals table =
    filter_map (own_refusal table) (enumerate_from 0 table.images.items)

-- The first dependency of image i's entry that is out of reach after these refusals, as a reason.
abbrev pub unmet_dependency : Table → List Refusal → ℕ → Entry → Option Reason
unmet_dependency table before i entry =
    option_map (λ dependency. Needs dependency.image dependency.minimum)
    (find (is_out_of_reach table before i) entry.dependencies.items)

-- The first group of image i's entry that is out of reach after these refusals, as a reason.
abbrev pub unmet_group : Table → List Refusal → ℕ → Entry → Option Reason
unmet_group table before i entry =
    option_map (λ group. NeedsOne group)
    (find (is_group_out_of_reach table before i) entry.groups.items)

-- The first dependency of image i's entry that is out of reach, or else the first such group.
abbrev pub needs_reason_of_entry : Table → List Refusal → ℕ → Entry → Option Reason
needs_reason_of_entry table before i entry =
    option_or (unmet_dependency table before i entry) (unmet_group table before i entry)

-- The first dependency, or else group, of image i's intact request that is out of reach.
abbrev pub needs_reason : Table → List Refusal → ℕ → Option Reason
needs_reason table before i =
    option_and_then
    (λ image. option_and_then (needs_reason_of_entry table before i) (intact_entry image.request))
    (image_at table i)

-- The next refusal after these: of the lowest unrefused request with a dependency or a group out of
-- reach, for the first such dependency, else the first such group.
pub record IsNextNeed (table : Table) (before : List Refusal) (refusal : Refusal) : Type 0 where
  pub unrefused : is_refused before refusal.image ≡ false
  pub reason : needs_reason table before refusal.image ≡ Some refusal.reason
  pub lowest :
      (i : ℕ) → i < refusal.image → is_refused before i ≡ false → needs_reason table before i ≡ None

-- Each of these refusals is the next need after the own refusals and those before it.
abbrev pub AreNextNeeds : Table → List Refusal → Type 0
AreNextNeeds table later =
    (k : ℕ) → IfSome (slice_get later k) (IsNextNeed table (own_refusals table ++ take k later))

-- First all refusals for own reasons, then one by one the lowest that needs what is out of reach.
abbrev pub IsInStandardOrder : Table → List Refusal → Type 0
IsInStandardOrder table refusals =
    (later : List Refusal) × (refusals ≡ own_refusals table ++ later) × AreNextNeeds table later
