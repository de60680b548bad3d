-- The number of drops and looks that a choice makes.
use Rattle.std.proofs.Common.{◌≡◌, ℕ, zero, suc, ◌+◌, ◌-◌, ◌≤◌, true, false, List, [], ◌∷◌, ◌++◌, length, Option, Some, None, inl, inr, refl, sym, ap, subst, ◌∙◌, add-one, append_assoc, length-append, arith}
use Rattle.std.specs.Prelude.{◌==◌, IfSome, find, filter_map, nat_lt, option_map}
use Rattle.std.specs.List.{cons_option, enumerate_from, list_any}
use Rattle.std.proofs.lemmas.Bool.{cond_both, ne_eqb, or_from}
use Rattle.std.proofs.lemmas.List.{length_push}
use Rattle.std.proofs.lemmas.List.Folds.{list_any-append}
use Rattle.std.proofs.lemmas.List.Sums.{sum_by_push}
use Rattle.version_order.specs.declared.dependency.Dependency.{Dependency}
use Rattle.version_order.specs.Order.{is_older}
use Rattle.reports.specs.declared.table.Entry.{Entry}
use Rattle.reports.specs.declared.table.Request.{Request}
use Rattle.reports.specs.declared.table.Request.TheVariants as request
use Rattle.reports.specs.declared.table.Image.{Image}
use Rattle.reports.specs.declared.table.Table.{Table}
use Rattle.reports.specs.declared.report.Reason.{Reason}
use Rattle.reports.specs.declared.report.Reason.TheVariants.{Damaged, Older, Counter, NoSuchImage}
use Rattle.reports.specs.declared.report.Refusal.{Refusal}
use Rattle.reports.specs.Combination.{image_at, intact_entry}
use Rattle.validity.specs.Dependants.{asks_for, is_dependant, names}
use Rattle.reports.specs.Reasons.{is_refused}
use Rattle.reports.specs.Rightness.{has_request, once_if}
use Rattle.reports.specs.StandardOrder.{is_missing, own_reason, own_refusal, own_refusals, IsNextNeed}
use Rattle.common.proofs.Options.{option_map_or-true}
use Rattle.common.proofs.Lists.{count_by-none}
use Rattle.reports.proofs.Counts.{IsOnce, IsOnce-push, length-once}
use Rattle.reports.proofs.Requests.{has_request-intact}
use Rattle.chooser.specs.declared.steps.Steps.{Steps}
use Rattle.chooser.specs.Counted.{drops_in, is_dependent, is_drop}
use Rattle.chooser.proofs.Order.{HasNeed-from_reason}

-- ---- drops

-- There is no reason, or it is no drop.
abbrev IsNoDrop : Option Reason → Type 0
IsNoDrop found = IfSome found (λ reason. is_dependent reason ≡ false)

-- A missing image is no drop.
missing-no_drop : (found : Option Dependency)
    → IsNoDrop (option_map (λ (dependency : Dependency). NoSuchImage dependency.image) found)
missing-no_drop None = tt
missing-no_drop (Some dependency) = refl

-- A refusal of a request by itself is no drop.
own-no_drop : (table : Table) (image : Image) (asked : Request) → IsNoDrop (own_reason table image asked)
own-no_drop table image request.None = tt
own-no_drop table image request.Damaged = refl
own-no_drop table image (request.Entry entry) =
    cond_both (is_older entry.version image.running.version) (Some Older) _ IsNoDrop (λ _. refl)
    (λ _. cond_both (nat_lt entry.counter image.floor) (Some Counter) _ IsNoDrop (λ _. refl)
    (λ _. missing-no_drop (find (is_missing table) entry.dependencies.items)))

-- A refusal that is no drop doesn't change the number of drops.
no_drop-cons : (n : ℕ) (found : Option Reason) (refusals : List Refusal) → IsNoDrop found
    → list_any is_drop refusals ≡ false
    → list_any is_drop (cons_option (option_map (λ reason. record { image = n; reason = reason }) found) refusals)
    ≡ false
no_drop-cons n None refusals first rest = rest
no_drop-cons n (Some reason) refusals first rest =
    or_from (is_dependent reason) (list_any is_drop refusals) first rest

-- No refusal of a request by itself is a drop.
no_drop-own : (table : Table) (n : ℕ) (images : List Image)
    → list_any is_drop (filter_map (own_refusal table) (enumerate_from n images)) ≡ false
no_drop-own table n [] = refl
no_drop-own table n (image ∷ images) =
    no_drop-cons n (own_reason table image image.request)
    (filter_map (own_refusal table) (enumerate_from (n + 1) images)) (own-no_drop table image image.request)
    (no_drop-own table (n + 1) images)

pub drops_in-own : (table : Table) → drops_in (own_refusals table) ≡ 0
drops_in-own table = count_by-none is_drop (own_refusals table) (no_drop-own table 0 table.images.items)

-- The next need is a drop.
pub drops_in-push : (table : Table) (refusals : List Refusal) (refusal : Refusal) → IsNextNeed table refusals refusal
    → drops_in (refusals ++ refusal ∷ []) ≡ drops_in refusals + 1
drops_in-push table refusals refusal need =
    let has = HasNeed-from_reason table refusals refusal.image refusal.reason need.reason in
    let drop : is_drop refusal ≡ true = elim has.unmet [
      | inl unmet ↦ ap is_dependent (sym unmet.names)
      | inr unmet ↦ ap is_dependent (sym unmet.names)
    ] in
    sum_by_push (λ (any_refusal : Refusal). once_if (is_drop any_refusal)) refusals refusal
    ∙ ap (λ passes. drops_in refusals + once_if passes) drop

-- ---- looks

-- The most looks until this number of requests is refused.
abbrev pub most_looks : ℕ → ℕ
most_looks zero = 0
most_looks (suc refused) = most_looks refused + (7 - refused)

-- After one more refusal, each remaining request is looked at at most once more.
pub most_looks-more : (refused : ℕ) → most_looks (refused + 1) ≡ most_looks refused + (7 - refused)
most_looks-more refused = ap most_looks (add-one refused)

-- There are at most 28 looks, since at most eight requests are refused.
pub most_looks-le : (refused : ℕ) → refused ≤ 8 → most_looks refused ≤ 28
most_looks-le refused few = omega (arith, grows refused (8 - refused) 8 (omega arith))
  where
    grows : (m k n : ℕ) → m + k ≡ n → most_looks m ≤ most_looks n
    grows m zero n is = let same : m ≡ n = omega arith in omega (arith, ap most_looks same)
    grows m (suc k) n is = omega (arith, grows (suc m) k n (omega arith))

-- A look changes only the number of looks.
pub counts_only_looks : (before now next : Steps) → now ≡ record before { looks = now.looks }
    → next ≡ record now { looks = now.looks + 1 } → next ≡ record before { looks = next.looks }
counts_only_looks before now next so_far looked =
    let count : next.looks ≡ now.looks + 1 = ap (λ (steps : Steps). steps.looks) looked in
    looked ∙ ap (λ (steps : Steps). record steps { looks = now.looks + 1 }) so_far
    ∙ ap (λ (n : ℕ). record before { looks = n }) (sym count)

-- `looked` has a refusal for each request that was looked at among the first n images. The number
-- of looks is its length.
pub record AreLooks (table : Table) (refusals : List Refusal) (n before after : ℕ) : Type 0 where
  pub looked : List Refusal
  pub once : IsOnce table (refusals ++ looked)
  pub below : (i : ℕ) → n ≤ i → is_refused looked i ≡ false
  pub few : length looked ≤ n
  pub count : after ≡ before + length looked

-- Image n is not looked at.
pub AreLooks-skip : (table : Table) (refusals : List Refusal) (n before after : ℕ)
    → AreLooks table refusals n before after → AreLooks table refusals (n + 1) before after
AreLooks-skip table refusals n before after so_far = record {
  looked = so_far.looked;
  once = so_far.once;
  below = λ i from. so_far.below i (omega arith);
  few = omega (arith, so_far.few);
  count = so_far.count;
}

-- A dependant has a request.
has_request-dependant : (table : Table) (j i : ℕ) → is_dependant table j i ≡ true → has_request table i ≡ true
has_request-dependant table j i dependant =
    let (image, has_image, asks) = option_map_or-true (asks_for j) (image_at table i) dependant in
    let (entry, has_entry, _) =
    option_map_or-true (λ (any_entry : Entry). names any_entry j) (intact_entry image.request) asks in
    has_request-intact table i image entry has_image has_entry

-- Image n is looked at.
pub AreLooks-look : (table : Table) (refusals : List Refusal) (j n before after : ℕ)
    → is_dependant table j n ≡ true → is_refused refusals n ≡ false → AreLooks table refusals n before after
    → AreLooks table refusals (n + 1) before (after + 1)
AreLooks-look table refusals j n before after dependant unrefused so_far =
    let look : Refusal = record { image = n; reason = Damaged } in
    let looked = so_far.looked in
    let unlisted : is_refused (refusals ++ looked) n ≡ false =
    list_any-append (λ (any_refusal : Refusal). any_refusal.image == n) refusals looked
    ∙ or_from (is_refused refusals n) (is_refused looked n) unrefused (so_far.below n (omega arith)) in
    record {
      looked = looked ++ look ∷ [];
      once = subst (λ (listed : List Refusal). IsOnce table listed) (append_assoc refusals looked (look ∷ []))
          (IsOnce-push table (refusals ++ looked) look so_far.once unlisted
          (has_request-dependant table j n dependant));
      below = λ i from.
          list_any-append (λ (any_refusal : Refusal). any_refusal.image == i) looked (look ∷ [])
          ∙ or_from (is_refused looked i) _ (so_far.below i (omega arith))
          (or_from (n == i) false (ne_eqb n i (λ same. absurd (omega arith))) refl);
      few = omega (arith, length_push looked look, so_far.few);
      count = omega (arith, length_push looked look, so_far.count);
    }

-- There are at most as many looks as images whose requests aren't refused.
pub looks-le : (table : Table) (refusals : List Refusal) (n before after : ℕ)
    → AreLooks table refusals n before after → after + length refusals ≤ before + length table.images.items
looks-le table refusals n before after so_far =
    omega (
      arith,
      so_far.count,
      length-append refusals so_far.looked,
      length-once table (refusals ++ so_far.looked) so_far.once,
    )
