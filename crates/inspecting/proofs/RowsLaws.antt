-- Lemmas about the rows of a summary in memory.
use Rattle.std.proofs.Common.{◌≡◌, ℕ, ◌+◌, Bool, true, false, List, [], ◌∷◌, ◌++◌, map, Option, Some, None, String, BTreeMap, string_bytes, refl, sym, ap, ◌∙◌, subst, arith, cond, inl, inr}
use Rattle.std.proofs.lemmas.Bool.{cases_Bool}
use Rattle.std.proofs.lemmas.List.{append-nil}
use Rattle.std.proofs.lemmas.List.Sums.{sum_by-append}
use Rattle.std.proofs.lemmas.Grind.{flat_map-append}
use Rattle.std.proofs.lemmas.List.Concat.{flat_map-cons}
use Rattle.std.proofs.lemmas.Map.Keys.{sorted_head, sorted_tail}
use Rattle.std.proofs.lemmas.Map.Text.{is_eq-slice_cmp}
use Rattle.std.specs.BTreeMap.{IsEmpty, get_by_text, is_at}
use Rattle.std.specs.Cmp.Lexicographic.{bytes_decides, nat_list_eq_equiv, slice_cmp}
use Rattle.std.specs.List.{AllByRecursion}
use Rattle.std.specs.List.Sorted.{IsStrictlySortedBy}
use Rattle.std.specs.Map.{keys_of, lookup, update}
use Rattle.std.specs.Option.{option_map_or, option_or}
use Rattle.std.specs.Prelude.{option_map}
use Rattle.std.specs.Ordering.{nat_cmp}
use Rattle.std.specs.String.{string_cmp}
use Rattle.std.specs.declared.cmp.Ordering.TheVariants.{Less}
use Rattle.std.specs.Str.{bytes_eq}
use Rattle.inspecting.specs.Row.{IsSumOf, Row, count_in, first_in, row_text, summary_text}
use Rattle.inspecting.specs.Rows.{AddsRow, AreRows, IsTallied, count_at, entry_row, first_at}
use Rattle.inspecting.specs.declared.fleet.rows.Tally.{Tally}

option_or-none : {X : Type 0} (o : Option X) → option_or o None ≡ o
option_or-none None = refl
option_or-none (Some x) = refl

-- The first device of rows, and of more rows.
pub first_in-append : (rows more : List Row) (key : List ℕ) → first_in (rows ++ more) key ≡ option_or (first_in rows key) (first_in more key)
first_in-append [] more key = refl
first_in-append (row ∷ rows) more key = elim (cases_Bool (bytes_eq key row.key)) [
  | inl same ↦ rw same refl
  | inr differs ↦ rw differs (first_in-append rows more key)
]

pub count_in-append : (rows more : List Row) (key : List ℕ) → count_in (rows ++ more) key ≡ count_in rows key + count_in more key
count_in-append rows more key = sum_by-append _ rows more

module _ {Y : Type 0} {old new : BTreeMap (String Y) Tally} where
  -- The tally of a key is set to that with one more row.
  pub AddsRow-set : (row : Row) (tally : Tally)
      → ((key : List ℕ) → get_by_text new key ≡ update bytes_eq (get_by_text old) row.key (Some tally) key)
      → tally.count ≡ count_at old row.key + row.count
      → Some (string_bytes tally.first) ≡ option_or (first_at old row.key) (Some row.first) → AddsRow row old new
  AddsRow-set row tally sets count first = record {
    counts = λ key. ap (λ o. option_map_or (λ t. t.count) o 0) (sets key) ∙ counted key (bytes_eq row.key key) refl;
    firsts = λ key. ap (λ o. option_map (λ t. string_bytes t.first) o) (sets key) ∙ named key (bytes_eq row.key key) refl;
  }
    where
      counted : (key : List ℕ) (b : Bool) → bytes_eq row.key key ≡ b
          → option_map_or (λ t. t.count) (cond (bytes_eq row.key key) (Some tally) (get_by_text old key)) 0 ≡ count_at old key + count_in (row ∷ []) key
      counted key true same = rw (nat_list_eq_equiv.symm key row.key, same) (omega (arith, count, ap (count_at old) ((bytes_decides row.key key).0 same)))
      counted key false differs = rw (nat_list_eq_equiv.symm key row.key, differs) (omega arith)

      named : (key : List ℕ) (b : Bool) → bytes_eq row.key key ≡ b
          → option_map (λ t. string_bytes t.first) (cond (bytes_eq row.key key) (Some tally) (get_by_text old key)) ≡ option_or (first_at old key) (first_in (row ∷ []) key)
      named key true same = rw (nat_list_eq_equiv.symm key row.key, same) (first ∙ ap (λ k. option_or (first_at old k) (Some row.first)) ((bytes_decides row.key key).0 same))
      named key false differs = rw (nat_list_eq_equiv.symm key row.key, differs) (sym (option_or-none (first_at old key)))

  -- One more row is added.
  pub IsTallied-more : (added : List Row) (row : Row) → IsTallied added old → AddsRow row old new → IsTallied (added ++ row ∷ []) new
  IsTallied-more added row was adds = record {
    counts = λ key. adds.counts key ∙ ap (λ n. n + count_in (row ∷ []) key) (was.counts key) ∙ sym (count_in-append added (row ∷ []) key);
    firsts = λ key. adds.firsts key ∙ ap (λ o. option_or o (first_in (row ∷ []) key)) (was.firsts key) ∙ sym (first_in-append added (row ∷ []) key);
  }

module _ {Y : Type 0} where
  pub IsTallied-none : (rows : BTreeMap (String Y) Tally) → IsEmpty rows → IsTallied [] rows
  IsTallied-none rows empty = record { counts = λ key. rw empty refl; firsts = λ key. rw empty refl }

  below : (key : List ℕ) (entries : List (String Y × Tally)) → AllByRecursion (λ k. slice_cmp nat_cmp key (string_bytes k) ≡ Less) (keys_of entries)
      → AllByRecursion (λ k. slice_cmp nat_cmp key k ≡ Less) (map (λ row. row.key) (map entry_row entries))
  below key [] all = tt
  below key (entry ∷ entries) all = (all.0, below key entries all.1)

  -- The rows are sorted by their keys.
  pub sorted-rows : (entries : List (String Y × Tally)) → IsStrictlySortedBy string_cmp (keys_of entries)
      → IsStrictlySortedBy (slice_cmp nat_cmp) (map (λ row. row.key) (map entry_row entries))
  unfolding IsStrictlySortedBy
  sorted-rows [] sorted = tt
  sorted-rows (entry ∷ entries) sorted = (below (string_bytes entry.0) entries sorted.0, sorted-rows entries sorted.1)

  -- The tally of a key is found in its row.
  pub found-first : (key : List ℕ) (entries : List (String Y × Tally))
      → first_in (map entry_row entries) key ≡ option_map (λ t. string_bytes t.first) (lookup (is_at (λ k. slice_cmp nat_cmp key (string_bytes k))) entries)
  found-first key [] = refl
  found-first key (entry ∷ entries) = rw (is_eq-slice_cmp key (string_bytes entry.0)) (elim (cases_Bool (bytes_eq key (string_bytes entry.0))) [
    | inl same ↦ rw same refl
    | inr differs ↦ rw differs (found-first key entries)
  ])

-- The count of a key, by whether the first row is its own.
count_in-same : (key : List ℕ) (row : Row) (rows : List Row) → bytes_eq key row.key ≡ true → count_in (row ∷ rows) key ≡ row.count + count_in rows key
count_in-same key row rows same = count_in-append (row ∷ []) rows key ∙ rw same (omega arith)

count_in-other : (key : List ℕ) (row : Row) (rows : List Row) → bytes_eq key row.key ≡ false → count_in (row ∷ rows) key ≡ count_in rows key
count_in-other key row rows differs = rw differs refl

-- A key below all others has no count among them.
count_in-below : (key : List ℕ) (rows : List Row) → AllByRecursion (λ k. slice_cmp nat_cmp key k ≡ Less) (map (λ row. row.key) rows) → count_in rows key ≡ 0
count_in-below key [] all = refl
count_in-below key (row ∷ rows) all = rw (← is_eq-slice_cmp key row.key, all.0) (count_in-below key rows all.1)

module _ {Y : Type 0} where
  found-count : (key : List ℕ) (entries : List (String Y × Tally)) → IsStrictlySortedBy (slice_cmp nat_cmp) (map (λ row. row.key) (map entry_row entries))
      → count_in (map entry_row entries) key ≡ option_map_or (λ t. t.count) (lookup (is_at (λ k. slice_cmp nat_cmp key (string_bytes k))) entries) 0
  found-count key [] sorted = refl
  found-count key (entry ∷ entries) sorted = rw (is_eq-slice_cmp key (string_bytes entry.0)) (elim (cases_Bool (bytes_eq key (string_bytes entry.0))) [
    | inl same ↦
        let none = count_in-below key (map entry_row entries)
        (subst (λ bytes. AllByRecursion (λ k. slice_cmp nat_cmp bytes k ≡ Less) (map (λ row. row.key) (map entry_row entries)))
        (sym ((bytes_decides key (string_bytes entry.0)).0 same)) (sorted_head _ _ _ sorted)) in
        count_in-same key (entry_row entry) (map entry_row entries) same ∙ rw (same, none) (omega arith)
    | inr differs ↦ count_in-other key (entry_row entry) (map entry_row entries) differs ∙ rw differs (found-count key entries (sorted_tail _ _ _ sorted))
  ])

  -- The rows are the sum of those that were added.
  pub IsSumOf-tallied : (added list : List Row) (rows : BTreeMap (String Y) Tally) → AreRows list rows → IsTallied added rows → IsSumOf added list
  IsSumOf-tallied added list rows are was = record {
    sorted = are.sorted;
    counts = λ key. ap (λ l. count_in l key) are.are ∙ found-count key rows.entries (subst (λ l. IsStrictlySortedBy (slice_cmp nat_cmp) (map (λ row. row.key) l)) are.are are.sorted) ∙ was.counts key;
    firsts = λ key. ap (λ l. first_in l key) are.are ∙ found-first key rows.entries ∙ was.firsts key;
  }

-- The text of one more row.
pub summary_text-more : (rows : List Row) (row : Row) → summary_text (rows ++ row ∷ []) ≡ summary_text rows ++ (row_text row ++ 10 ∷ [])
summary_text-more rows row =
    flat_map-append (λ (r : Row). row_text r ++ 10 ∷ []) rows (row ∷ [])
    ∙ ap (λ t. summary_text rows ++ t) (flat_map-cons (λ (r : Row). row_text r ++ 10 ∷ []) row [] ∙ append-nil (row_text row ++ 10 ∷ []))
