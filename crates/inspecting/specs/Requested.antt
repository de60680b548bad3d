-- The versions that a table requests.
use Rattle.std.specs.Prelude.{ℕ, List, ◌∷◌, [], map, slice_get, Option, Some, None, option_and_then}
use Rattle.reports.specs.declared.table.Request.{Request}
use Rattle.reports.specs.declared.table.Request.TheVariants as request
use Rattle.reports.specs.declared.table.Table.{Table}
use Rattle.version_order.specs.declared.version.Version.{Version}

-- The version that is requested, if an intact image is.
abbrev pub version_of : Request → Option Version
version_of (request.Entry entry) = Some entry.version
version_of request.None = None
version_of request.Damaged = None

-- The version that a table requests of image j.
abbrev pub requested_version : Table → ℕ → Option Version
requested_version table j =
    option_and_then (λ image. version_of image.request) (slice_get table.images.items j)

-- Of eight image numbers the version that a table requests, if it requests an intact image.
abbrev pub requested_versions : Table → List (Option Version)
requested_versions table =
    requested_version table 0 ∷ requested_version table 1 ∷ requested_version table 2
    ∷ requested_version table 3 ∷ requested_version table 4 ∷ requested_version table 5
    ∷ requested_version table 6 ∷ requested_version table 7 ∷ []

-- The version of image j among these.
abbrev pub version_at : List (Option Version) → ℕ → Option Version
version_at requested j = option_and_then (λ version. version) (slice_get requested j)
