-- The rows of a summary: how often each key occurs, and the first device that has it.
use Rattle.std.specs.Prelude.{◌≡◌, ℕ, List, ◌∷◌, [], decimal, map, Option, Some, None, if◌then◌else◌}
use Rattle.std.specs.Cmp.Lexicographic.{slice_cmp}
use Rattle.std.specs.List.{sum_by}
use Rattle.std.specs.List.Sorted.{IsStrictlySortedBy}
use Rattle.std.specs.Ordering.{nat_cmp}
use Rattle.std.specs.Str.{bytes_eq}
use Rattle.common.specs.Lines.{◌␣◌, printed_lines}

-- A row: how often a key occurs, and the first device that has it.
pub record Row : Type 0 where
  pub count : ℕ
  pub first : List ℕ
  pub key : List ℕ

-- How often a key occurs by these rows.
abbrev pub count_in : List Row → List ℕ → ℕ
count_in rows key = sum_by (λ row. if bytes_eq key row.key then row.count else 0) rows

-- The first device that has a key by these rows.
abbrev pub first_in : List Row → List ℕ → Option (List ℕ)
first_in [] key = None
first_in (row ∷ rows) key = if bytes_eq key row.key then Some row.first else first_in rows key

-- Rows are a sum of others: they are sorted by the bytes of their keys, each key once. Each key
-- occurs as often as in the others, with the same first device. A key that has none has no row.
pub record IsSumOf (added rows : List Row) : Type 0 where
  pub sorted : IsStrictlySortedBy (slice_cmp nat_cmp) (map (λ row. row.key) rows)
  pub counts : (key : List ℕ) → count_in rows key ≡ count_in added key
  pub firsts : (key : List ℕ) → first_in rows key ≡ first_in added key

-- The printed text of a row: `COUNT FIRST KEY`.
abbrev pub row_text : Row → List ℕ
row_text row = decimal row.count ␣ row.first ␣ row.key

-- The printed text of a summary.
abbrev pub summary_text : List Row → List ℕ
summary_text rows = printed_lines row_text rows
