-- The images of a release, which are requested in place of a table's own requests.
use Rattle.std.specs.Prelude.{◌≡◌, ◌<◌, ◌≤◌, ℕ, List, length, Option, Some, None, IfSome, slice_get}
use Rattle.reports.specs.declared.table.Entry.{Entry}
use Rattle.reports.specs.declared.table.Request.TheVariants as request
use Rattle.reports.specs.declared.table.Image.{Image}

-- An image with this request. Without one it keeps its own.
abbrev pub with_request : Option Entry → Image → Image
with_request None image = image
with_request (Some entry) image = record image { request = request.Entry entry }

-- Image j has the j-th of these requests, or its own if that is none.
abbrev pub HasRequest : List (Option Entry) → List Image → ℕ → Image → Type 0
HasRequest entries old j image =
    IfSome (slice_get old j) (λ before. IfSome (slice_get entries j)
    (λ entry. image ≡ with_request entry before))

-- These images are those of a table with its requests replaced by those of a release.
pub record Replaces (entries : List (Option Entry)) (old new : List Image) : Type 0 where
  pub as_many : length new ≡ length old
  pub each : (j : ℕ) → IfSome (slice_get new j) (HasRequest entries old j)

-- The first n images have the requests of the release, and the others are as they were.
pub record ReplacesFirst (n : ℕ) (entries : List (Option Entry)) (old new : List Image) : Type 0 where
  pub as_many : length new ≡ length old
  pub each : (j : ℕ) → j < n → IfSome (slice_get new j) (HasRequest entries old j)
  pub others : (j : ℕ) → n ≤ j → slice_get new j ≡ slice_get old j
