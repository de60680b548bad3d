-- Lemmas by which summaries are added up.
use Rattle.std.proofs.Common.{◌≡◌, ℕ, ◌+◌, List, [], ◌∷◌, ◌++◌, length, map, Option, Some, None, BTreeMap, String, string_bytes, is_some, option_map, codes, ◌||◌, append_assoc, refl, sym, ap, ◌∙◌, subst}
use Rattle.std.proofs.lemmas.Cmp.{nat_list_cmp_total}
use Rattle.std.proofs.lemmas.Grind.{flat_map-append}
use Rattle.std.proofs.lemmas.List.{append-nil, map-append, nil_from_length}
use Rattle.std.proofs.lemmas.List.Concat.{flat_map-cons}
use Rattle.std.specs.BTreeMap.{get_by_text}
use Rattle.std.specs.Cmp.Lexicographic.{slice_cmp}
use Rattle.std.specs.List.{AllByRecursion, AllZip, flat_map}
use Rattle.std.specs.List.Sorted.{IsStrictlySortedBy}
use Rattle.std.specs.Ordering.{nat_cmp}
use Rattle.std.specs.Option.{option_or}
use Rattle.std.specs.declared.cmp.Ordering.{Ordering}
use Rattle.std.specs.declared.cmp.Ordering.TheVariants.{Less}
use Rattle.common.proofs.Items.{AllByRecursion-push}
use Rattle.inspecting.proofs.RowsLaws.{count_in-append, first_in-append, found-first, summary_text-more}
use Rattle.inspecting.proofs.SummaryLaws.{AddsRows-both}
use Rattle.inspecting.specs.Merging.{HasAdded, IsNext, has_bad_at, has_bad_row, has_key}
use Rattle.inspecting.specs.Plan.{Planned}
use Rattle.inspecting.specs.Row.{Row, count_in, first_in, row_text, summary_text}
use Rattle.inspecting.specs.Rows.{AreRows, IsTallied}
use Rattle.inspecting.specs.Summary.{IsSum, IsSummary, rows_of}
use Rattle.inspecting.specs.SummaryRows.{AddsRows}
use Rattle.inspecting.specs.SummaryText.{FitsRow, IsSummaryText}
use Rattle.inspecting.specs.declared.fleet.rows.Tally.{Tally}

-- One more key, which is above all others.
sorted-push : {K : Type 0} (cmp : K → K → Ordering) (keys : List K) (key : K) → IsStrictlySortedBy cmp keys → AllByRecursion (λ k. cmp k key ≡ Less) keys
    → IsStrictlySortedBy cmp (keys ++ key ∷ [])
unfolding IsStrictlySortedBy
sorted-push cmp [] key sorted above = (tt, tt)
sorted-push cmp (k ∷ keys) key sorted above = (AllByRecursion-push (λ x. cmp k x ≡ Less) keys key sorted.0 above.0, sorted-push cmp keys key sorted.1 above.1)

module _ {Y : Type 0} where
  AddsRows-none : (rows : BTreeMap (String Y) Tally) → AddsRows [] rows rows
  AddsRows-none rows added was = subst (λ all. IsTallied all rows) (sym (append-nil added)) was

  -- Nothing of a text is read.
  pub HasAdded-none : (text : List ℕ) (rows : BTreeMap (String Y) Tally) → HasAdded text text [] rows rows
  unfolding IsStrictlySortedBy
  HasAdded-none text rows = record { rows = []; split = refl; each = tt; sorted = tt; above = λ key less. tt; adds = AddsRows-none rows }

  -- One more row is added.
  pub HasAdded-next : (text rest last : List ℕ) (row : Row) (after : List ℕ) (old mid new : BTreeMap (String Y) Tally)
      → HasAdded text rest last old mid → IsNext last rest row after → AddsRows (row ∷ []) mid new → HasAdded text after row.key old new
  HasAdded-next text rest last row after old mid new was next adds =
      let keys = map (λ (r : Row). r.key) was.rows in
      let more : map (λ (r : Row). r.key) (was.rows ++ row ∷ []) ≡ keys ++ row.key ∷ [] = map-append (λ (r : Row). r.key) was.rows (row ∷ []) in
      record {
        rows = was.rows ++ row ∷ [];
        split = was.split ∙ ap (λ t. summary_text was.rows ++ t) next.split ∙ sym (append_assoc (summary_text was.rows) (row_text row ++ 10 ∷ []) after)
            ∙ ap (λ t. t ++ after) (sym (summary_text-more was.rows row));
        each = AllByRecursion-push FitsRow was.rows row was.each next.fits;
        sorted = subst (IsStrictlySortedBy (slice_cmp nat_cmp)) (sym more) (sorted-push (slice_cmp nat_cmp) keys row.key was.sorted (was.above row.key next.above));
        above = λ key less. subst (AllByRecursion (λ k. slice_cmp nat_cmp k key ≡ Less)) (sym more)
            (AllByRecursion-push (λ k. slice_cmp nat_cmp k key ≡ Less) keys row.key (was.above key (nat_list_cmp_total.trans last row.key key next.above less)) less);
        adds = AddsRows-both was.rows (row ∷ []) old mid new was.adds adds;
      }

  -- A text is read to its end.
  pub IsSummaryText-done : (text rest last : List ℕ) (old new : BTreeMap (String Y) Tally) → HasAdded text rest last old new → length rest ≡ 0
      → (rows : List Row) × IsSummaryText text rows × AddsRows rows old new
  IsSummaryText-done text rest last old new was none = (
    was.rows,
    record { each = was.each; sorted = was.sorted; spelled = was.split ∙ ap (λ t. summary_text was.rows ++ t) (nil_from_length rest none) ∙ append-nil (summary_text was.rows) },
    was.adds,
  )

-- A value is there if what is made of it is.
is_some-map : {X Z : Type 0} (f : X → Z) (o : Option X) → is_some o ≡ is_some (option_map f o)
is_some-map f None = refl
is_some-map f (Some x) = refl

module _ {Y : Type 0} where
  -- The rows of one more part are added.
  pub IsTallied-part : (parts : List (List Row)) (rows : List Row) (old new : BTreeMap (String Y) Tally)
      → IsTallied (flat_map (λ part. part) parts) old → AddsRows rows old new → IsTallied (flat_map (λ part. part) (parts ++ rows ∷ [])) new
  IsTallied-part parts rows old new was adds =
      let all = flat_map-append (λ (p : List Row). p) parts (rows ∷ []) ∙ ap (λ rs. flat_map (λ p. p) parts ++ rs) (flat_map-cons (λ (p : List Row). p) rows [] ∙ append-nil rows) in
      subst (λ rs. IsTallied rs new) (sym all) (adds (flat_map (λ p. p) parts) was)

  has_key-rows : (key : List ℕ) (rows : List Row) (tallies : BTreeMap (String Y) Tally) → AreRows rows tallies → is_some (get_by_text tallies key) ≡ has_key rows key
  has_key-rows key rows tallies are =
      is_some-map (λ tally. string_bytes tally.first) (get_by_text tallies key) ∙ ap is_some (sym (found-first key tallies.entries))
      ∙ ap (λ rs. is_some (first_in rs key)) (sym are.are)

  -- The answer is that of the rows.
  pub has_bad-rows : (rows : List Row) (tallies : BTreeMap (String Y) Tally) → AreRows rows tallies → has_bad_at tallies ≡ has_bad_row rows
  has_bad-rows rows tallies are =
      ap (λ b. b || is_some (get_by_text tallies (codes "not-valid"))) (has_key-rows (codes "bad") rows tallies are)
      ∙ ap (λ b. has_key rows (codes "bad") || b) (has_key-rows (codes "not-valid") rows tallies are)

-- The devices of the summarized parts in a row.
abbrev devices_of : List (List Planned) → List Row
devices_of plans = flat_map rows_of (flat_map (λ plan. plan) plans)

devices_of-cons : (plan : List Planned) (plans : List (List Planned)) → devices_of (plan ∷ plans) ≡ flat_map rows_of plan ++ devices_of plans
devices_of-cons plan plans =
    ap (flat_map rows_of) (flat_map-cons (λ (p : List Planned). p) plan plans) ∙ flat_map-append rows_of plan (flat_map (λ p. p) plans)

-- What is measured of all rows is the same for the summaries of plans as for their devices, if it is the same for one, and what is
-- measured of rows in a row is joined.
parts_measure : {T : Type 0} (measure : List Row → T) (join : T → T → T) → ((one two : List Row) → measure (one ++ two) ≡ join (measure one) (measure two))
    → ((plan : List Planned) (part : List Row) → IsSummary plan part → measure part ≡ measure (flat_map rows_of plan))
    → (plans : List (List Planned)) (parts : List (List Row)) → AllZip IsSummary plans parts
    → measure (flat_map (λ part. part) parts) ≡ measure (devices_of plans)
parts_measure measure join joined same [] [] each = refl
parts_measure measure join joined same [] (part ∷ parts) each = absurd each
parts_measure measure join joined same (plan ∷ plans) [] each = absurd each
parts_measure measure join joined same (plan ∷ plans) (part ∷ parts) each =
    ap measure (flat_map-cons (λ (p : List Row). p) part parts) ∙ joined part (flat_map (λ p. p) parts)
    ∙ ap (λ one. join one (measure (flat_map (λ p. p) parts))) (same plan part each.0)
    ∙ ap (λ two. join (measure (flat_map rows_of plan)) two) (parts_measure measure join joined same plans parts each.1)
    ∙ sym (joined (flat_map rows_of plan) (devices_of plans)) ∙ ap measure (sym (devices_of-cons plan plans))

-- The sum of the summaries of plans is the summary of all their devices.
pub sum_of_summaries : (plans : List (List Planned)) (parts : List (List Row)) (rows : List Row) → AllZip IsSummary plans parts → IsSum parts rows
    → IsSummary (flat_map (λ plan. plan) plans) rows
sum_of_summaries plans parts rows each is = record {
  sorted = is.sorted;
  counts = λ key. is.counts key ∙ parts_measure (λ rs. count_in rs key) (λ m n. m + n) (λ one two. count_in-append one two key)
      (λ plan part summary. summary.counts key) plans parts each;
  firsts = λ key. is.firsts key ∙ parts_measure (λ rs. first_in rs key) option_or (λ one two. first_in-append one two key)
      (λ plan part summary. summary.firsts key) plans parts each;
}
