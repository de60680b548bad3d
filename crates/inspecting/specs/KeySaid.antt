-- What the keys of devices say, as values. Their texts are read back as these.
use Rattle.std.specs.Prelude.{ℕ, ◌+◌, ◌^◌, ◌<◌, ◌≤◌, IfSome, List, [], ◌∷◌, ◌++◌, length, if◌then◌else◌}
use Rattle.std.specs.List.{AllByRecursion}
use Rattle.common.specs.Limits.{MOST_IMAGES}
use Rattle.reports.specs.ReportText.{FitsReason}
use Rattle.reports.specs.declared.report.ReportedImage.{ReportedImage}
use Rattle.version_order.specs.VersionText.{FitsFields}
use Rattle.version_order.specs.declared.dependency.Dependency.{Dependency}
use Rattle.inspecting.specs.declared.fleet.key.Key.{Key}
use Rattle.inspecting.specs.declared.fleet.key.Key.TheVariants as key
use Rattle.inspecting.specs.declared.fleet.row_key.RowKey.{RowKey}
use Rattle.inspecting.specs.declared.fleet.row_key.RowKey.TheVariants as said

-- The images that are taken, numbered from n, and their versions.
abbrev pub taken_from_set : ℕ → List ReportedImage → List Dependency
taken_from_set n [] = []
taken_from_set n (image ∷ images) =
    (if image.is_taken then record { image = n; minimum = image.version } ∷ [] else [])
    ++ taken_from_set (n + 1) images

-- What a key says.
abbrev pub said_by : Key → RowKey
said_by key.Device = said.Device
said_by key.Bad = said.Bad
said_by key.NotValid = said.NotValid
said_by (key.Take images) = said.Take (record { items = taken_from_set 0 images.now })
said_by (key.Refuse image version reason) =
    said.Refuse version (record { image = image; reason = reason.now })

-- The numbers of a key fit their fields, as those of a key in memory do, and it has at most eight
-- images.
abbrev pub FitsKey : Key → Type 0
FitsKey key.Device = Unit {0}
FitsKey key.Bad = Unit {0}
FitsKey key.NotValid = Unit {0}
FitsKey (key.Take images) =
    (length images.now ≤ MOST_IMAGES) × AllByRecursion (λ image. FitsFields image.version) images.now
FitsKey (key.Refuse image version reason) =
    (image < 2 ^ 8) × IfSome version FitsFields × FitsReason reason.now
