-- The rows of a summary in memory.
use Rattle.std.specs.Prelude.{◌≡◌, ℕ, ◌+◌, List, ◌∷◌, ◌++◌, [], map, Option, option_map, string_bytes, String}
use Rattle.std.specs.BTreeMap.{BTreeMap, get_by_text}
use Rattle.std.specs.Cmp.Lexicographic.{slice_cmp}
use Rattle.std.specs.List.Sorted.{IsStrictlySortedBy}
use Rattle.std.specs.Option.{option_map_or, option_or}
use Rattle.std.specs.Ordering.{nat_cmp}
use Rattle.inspecting.specs.Row.{Row, count_in, first_in, row_text}
use Rattle.inspecting.specs.declared.fleet.rows.Tally.{Tally}

-- The row of a key and its tally.
abbrev pub row_at : List ℕ → Tally → Row
row_at key tally = record { count = tally.count; first = string_bytes tally.first; key = key }

-- The line of a row, with its line feed.
abbrev pub row_line : List ℕ → Tally → List ℕ
row_line key tally = row_text (row_at key tally) ++ 10 ∷ []

module _ {Y : Type 0} where
  -- How often a key occurs by these rows.
  abbrev pub count_at : BTreeMap (String Y) Tally → List ℕ → ℕ
  count_at rows key = option_map_or (λ tally. tally.count) (get_by_text rows key) 0

  -- The first device that has a key by these rows.
  abbrev pub first_at : BTreeMap (String Y) Tally → List ℕ → Option (List ℕ)
  first_at rows key = option_map (λ tally. string_bytes tally.first) (get_by_text rows key)

  -- One more row is added.
  pub record AddsRow (row : Row) (old new : BTreeMap (String Y) Tally) : Type 0 where
    pub counts : (key : List ℕ) → count_at new key ≡ count_at old key + count_in (row ∷ []) key
    pub firsts : (key : List ℕ) → first_at new key ≡ option_or (first_at old key) (first_in (row ∷ []) key)

  -- These rows were added to none.
  pub record IsTallied (added : List Row) (rows : BTreeMap (String Y) Tally) : Type 0 where
    pub counts : (key : List ℕ) → count_at rows key ≡ count_in added key
    pub firsts : (key : List ℕ) → first_at rows key ≡ first_in added key

  -- The row of an entry.
  abbrev pub entry_row : String Y × Tally → Row
  entry_row entry = row_at (string_bytes entry.0) entry.1

  -- All rows, in the order of their keys.
  pub record AreRows (list : List Row) (rows : BTreeMap (String Y) Tally) : Type 0 where
    pub are : list ≡ map entry_row rows.entries
    pub sorted : IsStrictlySortedBy (slice_cmp nat_cmp) (map (λ row. row.key) list)
