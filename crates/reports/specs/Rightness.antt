-- When a report is right for a table.
use Rattle.std.specs.Prelude.{◌≡◌, ℕ, ◌+◌, Bool, true, false, length, IfSome, slice_get, if◌then◌else◌}
use Rattle.std.specs.Option.{option_map_or}
use Rattle.reports.specs.declared.table.Request.{Request}
use Rattle.reports.specs.declared.table.Request.TheVariants as request
use Rattle.reports.specs.declared.table.Image.{Image}
use Rattle.reports.specs.declared.table.Table.{Table}
use Rattle.reports.specs.declared.report.Report.{Report}
use Rattle.reports.specs.Combination.{image_at, entry_in, IsValid}
use Rattle.reports.specs.Reasons.{times_refused, IsFounded}

-- The combination that a report takes.
abbrev pub taken_in : Report → ℕ → Bool
taken_in report j = option_map_or (λ image. image.is_taken) (slice_get report.images.items j) false

-- Whether something is requested, intact or damaged.
abbrev pub is_requested : Request → Bool
is_requested request.None = false
is_requested request.Damaged = true
is_requested (request.Entry entry) = true

-- Whether a table has an image j for which something is requested.
abbrev pub has_request : Table → ℕ → Bool
has_request table j = option_map_or (λ image. is_requested image.request) (image_at table j) false

-- 1 for yes, 0 for no.
abbrev pub once_if : Bool → ℕ
once_if test = if test then 1 else 0

-- If a report has image j, its version is that of the entry that the report takes or lets run on.
abbrev pub HasVersionOf : Report → ℕ → Image → Type 0
HasVersionOf report j image =
    IfSome (slice_get report.images.items j)
    (λ reported. reported.version ≡ (entry_in image reported.is_taken).version)

-- If a table and a report have image j, the report has the version that it takes or lets run on.
abbrev pub HasVersionAt : Table → Report → ℕ → Type 0
HasVersionAt table report j = IfSome (image_at table j) (HasVersionOf report j)

-- The request of image j is taken or refused, once; without a request it is neither.
abbrev pub IsDecidedOnce : Table → Report → ℕ → Type 0
IsDecidedOnce table report j =
    times_refused report.refusals.items j + once_if (taken_in report j)
    ≡ once_if (has_request table j)

-- A report is right for a table: it has the table's images in the versions it takes or lets run on,
-- decides each request once, takes a valid combination, and its refusals are founded.
pub record IsRight (table : Table) (report : Report) : Type 0 where
  pub images : length report.images.items ≡ length table.images.items
  pub versions : (j : ℕ) → HasVersionAt table report j
  pub requests : (j : ℕ) → IsDecidedOnce table report j
  pub valid : IsValid table (taken_in report)
  pub founded : IsFounded table report.refusals.items
