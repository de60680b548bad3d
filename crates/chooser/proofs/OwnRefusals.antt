-- Laws of the requests that are refused by themselves.
use Rattle.std.proofs.Common.{◌≡◌, ℕ, zero, suc, ◌+◌, ◌<◌, ◌≤◌, false, List, [], ◌∷◌, ◌++◌, length, get_or, take, Option, Some, None, zero-add, refl, sym, ap, ◌∙◌, subst, arith}
use Rattle.std.specs.Prelude.{◌==◌, IfSome, option_map, option_to_list, slice_get}
use Rattle.std.specs.List.{cons_option, enumerate_from, filter_map}
use Rattle.std.specs.Option.{option_map_or}
use Rattle.std.proofs.lemmas.Bool.{eqb-false, ne_eqb}
use Rattle.std.proofs.lemmas.List.Sums.{sum_by-cons}
use Rattle.reports.specs.declared.table.Request.{Request}
use Rattle.reports.specs.declared.table.Request.TheVariants as request
use Rattle.reports.specs.declared.table.Image.{Image}
use Rattle.reports.specs.declared.table.Table.{Table}
use Rattle.reports.specs.declared.report.Reason.{Reason}
use Rattle.reports.specs.declared.report.Refusal.{Refusal}
use Rattle.reports.specs.Combination.{image_at}
use Rattle.reports.specs.Reasons.{is_refused, times_refused}
use Rattle.reports.specs.Rightness.{is_requested, once_if}
use Rattle.reports.specs.StandardOrder.{own_reason, own_reason_of_entry, own_refusal, own_refusals}
use Rattle.common.proofs.Lists.{filter_map-none}
use Rattle.common.proofs.Numbered.{filter_map-numbered_more, take-numbered_all, slice_get-enumerate_from}
use Rattle.reports.proofs.Counts.{IsOnce, once_if-le}

-- The refusals of the first images.
abbrev pub own_refusals_below : Table → ℕ → List Refusal
own_refusals_below table n = filter_map (own_refusal table) (take n (enumerate_from 0 table.images.items))

-- The refusal that the next image adds.
pub own_refusals_below-more : (table : Table) (images : List Image) (number : ℕ) (image : Image)
    (found : Option Refusal) → images ≡ table.images.items → number < length images
    → image ≡ get_or images number image → found ≡ own_refusal table (number, image)
    → own_refusals_below table (number + 1) ≡ own_refusals_below table number ++ option_to_list found
own_refusals_below-more table images number image found same within is answer =
    let within' : number < length table.images.items = subst (λ (xs : List Image). number < length xs) same within in
    let is' : image ≡ get_or table.images.items number image =
    subst (λ (xs : List Image). image ≡ get_or xs number image) same is in
    filter_map-numbered_more (own_refusal table) table.images.items number image within' is'
    ∙ ap (λ o. own_refusals_below table number ++ option_to_list o) (sym answer)

-- The refusals of all images are all refusals.
pub own_refusals_below-all : (table : Table) (images : List Image) (number : ℕ) → images ≡ table.images.items
    → length images ≤ number → own_refusals_below table number ≡ own_refusals table
own_refusals_below-all table images number same past =
    ap (filter_map (own_refusal table))
    (take-numbered_all table.images.items number (subst (λ (xs : List Image). length xs ≤ number) same past))

-- The reason of image n as a refusal.
abbrev as_refusal : ℕ → Option Reason → Option Refusal
as_refusal n found = option_map (λ reason. record { image = n; reason = reason }) found

-- The number of times that an optional refusal refuses the request of image j.
abbrev times_in : Option Refusal → ℕ → ℕ
times_in found j = option_map_or (λ refusal. once_if (refusal.image == j)) found 0

-- A list with one more refusal, if there is one.
times_refused-cons_option : (found : Option Refusal) (refusals : List Refusal) (j : ℕ)
    → times_refused (cons_option found refusals) j ≡ times_in found j + times_refused refusals j
times_refused-cons_option None refusals j = omega arith
times_refused-cons_option (Some refusal) refusals j =
    sum_by-cons (λ (any_refusal : Refusal). once_if (any_refusal.image == j)) refusal refusals

-- The refusal of another image.
times_in-other : (found : Option Reason) (n j : ℕ) → (n == j) ≡ false → times_in (as_refusal n found) j ≡ 0
times_in-other None n j other = refl
times_in-other (Some reason) n j other = ap once_if other

-- One refusal refuses a request at most once.
times_in-le : (found : Option Reason) (n j : ℕ) → times_in (as_refusal n found) j ≤ 1
times_in-le None n j = omega arith
times_in-le (Some reason) n j = once_if-le (n == j)

-- An image without a request isn't refused by itself.
times_in-own : (table : Table) (image : Image) (asked : Request) (n j : ℕ)
    → times_in (as_refusal n (own_reason table image asked)) j ≤ once_if (is_requested asked)
times_in-own table image request.None n j = omega arith
times_in-own table image request.Damaged n j = once_if-le (n == j)
times_in-own table image (request.Entry entry) n j = times_in-le (own_reason_of_entry table image entry) n j

-- The refusals of images that are numbered from n.
abbrev own_refusals_from : Table → ℕ → List Image → List Refusal
own_refusals_from table n images = filter_map (own_refusal table) (enumerate_from n images)

-- They refuse no request below n.
times_refused-below : (table : Table) (n : ℕ) (images : List Image) (j : ℕ) → j < n
    → times_refused (own_refusals_from table n images) j ≡ 0
times_refused-below table n [] j below = refl
times_refused-below table n (image ∷ images) j below =
    let first = times_refused-cons_option (own_refusal table (n, image)) (own_refusals_from table (n + 1) images) j in
    let other = times_in-other (own_reason table image image.request) n j (ne_eqb n j (λ same. absurd (omega arith))) in
    omega (arith, first, other, times_refused-below table (n + 1) images j (omega arith))

-- They refuse the request at place i at most once, if there is one.
times_refused-at : (table : Table) (n : ℕ) (images : List Image) (i j : ℕ) → n + i ≡ j
    → times_refused (own_refusals_from table n images) j ≤ once_if
    (option_map_or (λ image. is_requested image.request) (slice_get images i) false)
times_refused-at table n [] i j is = omega arith
times_refused-at table n (image ∷ images) zero j is =
    let first = times_refused-cons_option (own_refusal table (n, image)) (own_refusals_from table (n + 1) images) j in
    omega (
      arith,
      first,
      times_in-own table image image.request n j,
      times_refused-below table (n + 1) images j
          (omega arith),
    )
times_refused-at table n (image ∷ images) (suc i) j is =
    let first = times_refused-cons_option (own_refusal table (n, image)) (own_refusals_from table (n + 1) images) j in
    let other = times_in-other (own_reason table image image.request) n j (ne_eqb n j (λ same. absurd (omega arith))) in
    omega (arith, first, other, times_refused-at table (n + 1) images i j (omega arith))

-- Each request is refused by itself at most once.
pub IsOnce-own_refusals : (table : Table) → IsOnce table (own_refusals table)
IsOnce-own_refusals table = record { once = λ j. times_refused-at table 0 table.images.items j j (zero-add j) }

-- If the refusal of image j doesn't refuse it, there is none.
none_unless_listed : (found : Option Reason) (j : ℕ)
    → IfSome (as_refusal j found) (λ refusal. (refusal.image == j) ≡ false) → found ≡ None
none_unless_listed None j unlisted = refl
none_unless_listed (Some reason) j unlisted = absurd (eqb-false j j unlisted refl)

-- A request that isn't listed as refused by itself has no reason of its own.
pub own_reason-unlisted : (table : Table) (j : ℕ) (image : Image) → image_at table j ≡ Some image
    → is_refused (own_refusals table) j ≡ false → own_reason table image image.request ≡ None
own_reason-unlisted table j image has_image unlisted =
    let numbered : slice_get (enumerate_from 0 table.images.items) j ≡ Some (j, image) =
    slice_get-enumerate_from 0 j table.images.items
    ∙ ap (λ n. option_map (λ x. (n, x)) (slice_get table.images.items j)) (zero-add j)
    ∙ ap (option_map (λ x. (j, x))) has_image
    in
    none_unless_listed (own_reason table image image.request) j
    (filter_map-none (own_refusal table) (λ refusal. refusal.image == j) (enumerate_from 0 table.images.items) j
    (j, image) unlisted numbered)
