-- Marks: which of the remaining requests have a dependency or a group out of reach.
use Rattle.std.specs.Prelude.{◌≡◌, ℕ, Bool, false, ◌&&◌, not, is_some, List, slice_index_or}
use Rattle.reports.specs.declared.table.Table.{Table}
use Rattle.reports.specs.declared.report.Refusal.{Refusal}
use Rattle.validity.specs.Dependants.{is_dependant}
use Rattle.reports.specs.Reasons.{is_refused}
use Rattle.reports.specs.StandardOrder.{needs_reason}

-- Whether the request of image i isn't refused so far, and has a dependency or a group out of
-- reach.
abbrev pub has_need : Table → List Refusal → ℕ → Bool
has_need table refusals i = not (is_refused refusals i) && is_some (needs_reason table refusals i)

-- The mark of each image says whether its request remains and has a dependency or a group out of
-- reach.
pub record AreMarks (table : Table) (refusals : List Refusal) (marks : List Bool) : Type 0 where
  pub each : (i : ℕ) → slice_index_or marks i false ≡ has_need table refusals i

-- Whether image i has a request that names image j, as a dependency or an alternative, and isn't
-- refused so far.
abbrev pub is_left_dependant : Table → List Refusal → ℕ → ℕ → Bool
is_left_dependant table refusals j i = is_dependant table j i && not (is_refused refusals i)

-- The marks are right, except those of images whose requests remain and name image j.
pub record AreMarksApartFrom
    (table : Table) (refusals : List Refusal) (j : ℕ) (marks : List Bool) : Type 0 where
  pub others :
      (i : ℕ) → is_left_dependant table refusals j i ≡ false
      → slice_index_or marks i false ≡ has_need table refusals i
