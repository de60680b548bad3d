-- Why a request is refused, given the refusals before it in a list.
use Rattle.std.specs.Prelude.{◌≡◌, ℕ, ◌<◌, ◌==◌, Bool, false, not, List, take, IsTrue, None, count_by, Contains, IsSomeAnd, IfSome, slice_get, if◌then◌else◌}
use Rattle.std.specs.List.{list_any}
use Rattle.std.specs.Option.{option_map_or}
use Rattle.version_order.specs.declared.version.Version.{Version}
use Rattle.version_order.specs.declared.dependency.Dependency.{Dependency}
use Rattle.version_order.specs.declared.group.Group.{Group}
use Rattle.version_order.specs.Order.{is_older, IsOlder}
use Rattle.reports.specs.declared.table.Entry.{Entry}
use Rattle.reports.specs.declared.table.Request.TheVariants as request
use Rattle.reports.specs.declared.table.Image.{Image}
use Rattle.reports.specs.declared.table.Table.{Table}
use Rattle.reports.specs.declared.report.Reason.{Reason}
use Rattle.reports.specs.declared.report.Reason.TheVariants.{Damaged, Older, Counter, NoSuchImage, Needs, NeedsOne}
use Rattle.reports.specs.declared.report.Refusal.{Refusal}
use Rattle.reports.specs.Combination.{image_at, intact_entry, RequestMeets}

-- Whether the list refuses the request of image j.
abbrev pub is_refused : List Refusal → ℕ → Bool
is_refused refusals j = list_any (λ refusal. refusal.image == j) refusals

-- How often the list refuses the request of image j.
abbrev pub times_refused : List Refusal → ℕ → ℕ
times_refused refusals j = count_by (λ refusal. refusal.image == j) refusals

-- The newer of two versions.
abbrev pub newer_of : Version → Version → Version
newer_of v w = if is_older v w then w else v

-- The newer of the running version and the version of an intact request.
abbrev pub newest_version : Image → Version
newest_version image =
    option_map_or (λ entry. newer_of image.running.version entry.version)
    (intact_entry image.request) image.running.version

-- The version of an intact request, or else the running one.
abbrev pub requested_version : Image → Version
requested_version image =
    option_map_or (λ entry. entry.version) (intact_entry image.request) image.running.version

-- The best version of image j for the request of image `own` after these refusals: of image `own`
-- the requested one, else the running one or, if newer, that of an intact request not yet refused.
abbrev pub best_version : List Refusal → ℕ → ℕ → Image → Version
best_version before own j image =
    if j == own then requested_version image
    else (if is_refused before j then image.running.version else newest_version image)

-- Whether a dependency of image `own` names an image whose best version is below the minimum.
abbrev pub is_out_of_reach : Table → List Refusal → ℕ → Dependency → Bool
is_out_of_reach table before own dependency =
    option_map_or
    (λ image. is_older (best_version before own dependency.image image) dependency.minimum)
    (image_at table dependency.image) false

-- Whether an alternative for image `own` names an image whose best version isn't below the minimum.
abbrev pub is_in_reach : Table → List Refusal → ℕ → Dependency → Bool
is_in_reach table before own alternative =
    option_map_or
    (λ image. not (is_older (best_version before own alternative.image image) alternative.minimum))
    (image_at table alternative.image) false

-- Whether, after these refusals, no alternative of a group of image `own`'s request is in reach.
abbrev pub is_group_out_of_reach : Table → List Refusal → ℕ → Group → Bool
is_group_out_of_reach table before own group =
    not (list_any (is_in_reach table before own) group.alternatives.items)

-- Whether an entry depends on image j, in any version.
abbrev pub depends_on : Entry → ℕ → Bool
depends_on entry j = list_any (λ dependency. dependency.image == j) entry.dependencies.items

-- An entry depends on image j, which the table doesn't have.
abbrev pub NeedsMissing : Table → ℕ → Entry → Type 0
NeedsMissing table j entry = IsTrue (depends_on entry j) × (image_at table j ≡ None)

-- An entry requested for image `own` has this dependency, out of reach after these refusals.
abbrev pub NeedsUnreachable : Table → List Refusal → ℕ → Dependency → Entry → Type 0
NeedsUnreachable table before own dependency entry =
    Contains entry.dependencies.items dependency
    × IsTrue (is_out_of_reach table before own dependency)

-- An entry requested for image `own` has this group, out of reach after these refusals.
abbrev pub NeedsOneUnreachable : Table → List Refusal → ℕ → Group → Entry → Type 0
NeedsOneUnreachable table before own group entry =
    Contains entry.groups.items group × IsTrue (is_group_out_of_reach table before own group)

-- A reason for refusing the request of image i holds after these refusals.
abbrev pub ReasonHolds : Table → List Refusal → ℕ → Reason → Type 0
ReasonHolds table before i Damaged =
    IsSomeAnd (image_at table i) (λ image. image.request ≡ request.Damaged)
ReasonHolds table before i Older =
    RequestMeets table i (λ image entry. IsOlder entry.version image.running.version)
ReasonHolds table before i Counter =
    RequestMeets table i (λ image entry. entry.counter < image.floor)
ReasonHolds table before i (NoSuchImage j) =
    RequestMeets table i (λ image entry. NeedsMissing table j entry)
ReasonHolds table before i (Needs j minimum) =
    RequestMeets table i
    (λ image entry. NeedsUnreachable table before i (record { image = j; minimum = minimum }) entry)
ReasonHolds table before i (NeedsOne group) =
    RequestMeets table i (λ image entry. NeedsOneUnreachable table before i group entry)

-- The reason of this refusal holds after the refusals before it.
abbrev pub IsFoundedAfter : Table → List Refusal → Refusal → Type 0
IsFoundedAfter table before refusal = ReasonHolds table before refusal.image refusal.reason

-- A list of refusals is founded: the reason of each holds after those before it.
abbrev pub IsFounded : Table → List Refusal → Type 0
IsFounded table refusals =
    (k : ℕ) → IfSome (slice_get refusals k) (IsFoundedAfter table (take k refusals))
