-- A list refuses a request at most once, if there is one.
use Rattle.std.proofs.Common.{◌≡◌, ℕ, ◌+◌, ◌<◌, ◌≤◌, Bool, true, false, eqb, List, [], ◌∷◌, ◌++◌, length, map, inl, inr, refl, sym, ap, ◌∙◌, arith}
use Rattle.std.specs.Prelude.{◌==◌}
use Rattle.std.specs.List.{list_any, IsDistinct, AllByRecursion}
use Rattle.std.proofs.lemmas.Bool.{cases_Bool, or_left, or_right, or_parts, eqb-true, eqb-false, ne_eqb, eq-eqb, false_from_ne_true}
use Rattle.std.proofs.lemmas.List.{length-map}
use Rattle.std.proofs.lemmas.List.Sums.{sum_by-cons, sum_by_push}
use Rattle.std.proofs.lemmas.Map.Steps.{length-le_from_distinct_below}
use Rattle.std.proofs.lemmas.Option.{slice_get_within}
use Rattle.reports.specs.declared.table.Table.{Table}
use Rattle.reports.specs.declared.report.Refusal.{Refusal}
use Rattle.reports.specs.Combination.{image_at}
use Rattle.reports.specs.Reasons.{is_refused, times_refused}
use Rattle.reports.specs.Rightness.{has_request, once_if}
use Rattle.common.proofs.Options.{option_map_or-true}
use Rattle.common.proofs.Lists.{count_by-none, count_by-some}

-- Each request is refused at most once, and nothing else is.
pub record IsOnce (table : Table) (refusals : List Refusal) : Type 0 where
  pub once : (j : ℕ) → times_refused refusals j ≤ once_if (has_request table j)

-- `once_if` is 0 or 1.
pub once_if-le : (test : Bool) → once_if test ≤ 1
once_if-le true = omega arith
once_if-le false = omega arith

-- If `once_if` of a test isn't 0, the test holds.
pub once_if-some : (test : Bool) → 0 < once_if test → test ≡ true
once_if-some true some = refl
once_if-some false some = absurd (omega arith)

-- The numbers of the images whose requests are refused.
abbrev images_of : List Refusal → List ℕ
images_of refusals = map (λ refusal. refusal.image) refusals

-- An image that no refusal names isn't among these numbers.
apart_from_unrefused : (refusals : List Refusal) (j : ℕ) → is_refused refusals j ≡ false
    → AllByRecursion (λ i. eqb j i ≡ false) (images_of refusals)
apart_from_unrefused [] j unrefused = tt
apart_from_unrefused (refusal ∷ refusals) j unrefused =
    let parts = or_parts (refusal.image == j) (is_refused refusals j) unrefused in
    (ne_eqb j refusal.image (λ same. eqb-false _ _ parts.0 (sym same)), apart_from_unrefused refusals j parts.1)

-- If each request is refused at most once, these numbers are distinct.
distinct_images : (refusals : List Refusal) → ((j : ℕ) → times_refused refusals j ≤ 1)
    → IsDistinct eqb (images_of refusals)
unfolding IsDistinct
distinct_images [] once = tt
distinct_images (refusal ∷ refusals) once =
    let added : (j : ℕ)
    → times_refused (refusal ∷ refusals) j ≡ once_if (refusal.image == j) + times_refused refusals j =
    λ j. sum_by-cons (λ (any_refusal : Refusal). once_if (any_refusal.image == j)) refusal refusals
    in
    let here : once_if (refusal.image == refusal.image) ≡ 1 = ap once_if (eq-eqb refusal.image refusal.image refl) in
    let unrefused : is_refused refusals refusal.image ≡ false =
    false_from_ne_true _ (λ again. absurd
    (omega (
      arith,
      once refusal.image,
      added refusal.image,
      here,
      count_by-some
          (λ (any_refusal : Refusal). any_refusal.image == refusal.image) refusals again,
    )))
    in (
      apart_from_unrefused refusals refusal.image unrefused,
      distinct_images refusals
          (λ j. omega (arith, once j, added j)),
    )

-- An image among these numbers is refused.
is_refused-images_of : (refusals : List Refusal) (j : ℕ) → list_any (eqb j) (images_of refusals) ≡ true
    → is_refused refusals j ≡ true
is_refused-images_of [] j among = among
is_refused-images_of (refusal ∷ refusals) j among =
    elim (cases_Bool (refusal.image == j)) [
      | inl here ↦ or_left _ (is_refused refusals j) here
      | inr elsewhere ↦
          let apart : eqb j refusal.image ≡ false =
          ne_eqb j refusal.image (λ same. eqb-false _ _ elsewhere (sym same)) in
          or_right _ (is_refused refusals j) (is_refused-images_of refusals j (rw apart at among))
    ]

-- A request is that of an image of the table.
pub below-has_request : (table : Table) (j : ℕ) → has_request table j ≡ true → j < length table.images.items
below-has_request table j asked =
    let (image, has_image, _) = option_map_or-true _ (image_at table j) asked in
    slice_get_within table.images.items j image has_image

-- There are at most as many refusals as images.
pub length-once : (table : Table) (refusals : List Refusal) → IsOnce table refusals
    → length refusals ≤ length table.images.items
length-once table refusals is =
    let distinct = distinct_images refusals (λ j. omega (arith, is.once j, once_if-le (has_request table j))) in
    let below : (j : ℕ) → list_any (eqb j) (images_of refusals) ≡ true → j < length table.images.items =
    λ j among.
    let counted = count_by-some (λ (any_refusal : Refusal).
    any_refusal.image == j) refusals (is_refused-images_of refusals j among) in
    below-has_request table j (once_if-some _ (omega (arith, is.once j, counted)))
    in
    omega (
      arith,
      length-map refusals (λ (any_refusal : Refusal). any_refusal.image),
      length-le_from_distinct_below
          (images_of refusals) _ distinct below,
    )

-- A request that isn't refused yet can be refused.
pub IsOnce-push : (table : Table) (refusals : List Refusal) (refusal : Refusal) → IsOnce table refusals
    → is_refused refusals refusal.image ≡ false → has_request table refusal.image ≡ true
    → IsOnce table (refusals ++ refusal ∷ [])
IsOnce-push table refusals refusal is unrefused asked = record {
  once = λ j.
      let added = sum_by_push (λ (any_refusal : Refusal). once_if (any_refusal.image == j)) refusals refusal in
      elim (cases_Bool (refusal.image == j)) [
        | inl here ↦
            let same = eqb-true refusal.image j here in
            omega (
              arith,
              added,
              ap once_if here,
              count_by-none
                  (λ (any_refusal : Refusal). any_refusal.image == j) refusals
                  (ap (is_refused refusals) (sym same) ∙ unrefused),
              ap once_if
                  (ap (has_request table) (sym same) ∙ asked),
            )
        | inr elsewhere ↦ omega (arith, added, ap once_if elsewhere, is.once j)
      ];
}
