-- Laws of the standard order: its start, and its next refusal.
use Rattle.std.proofs.Common.{◌≡◌, ◌⊎◌, ℕ, ◌<◌, length, arith, false, List, [], ◌∷◌, ◌++◌, eqb, Some, None, inl, inr, sym, ap, ◌∙◌, subst}
use Rattle.std.specs.Prelude.{find}
use Rattle.std.proofs.lemmas.Bool.{or_parts}
use Rattle.std.proofs.lemmas.List.{append-nil, append_assoc, length_push}
use Rattle.std.proofs.lemmas.List.Folds.{list_any-append}
use Rattle.std.proofs.lemmas.Option.{option_and_then_some}
use Rattle.version_order.specs.declared.dependency.Dependency.{Dependency}
use Rattle.version_order.specs.declared.group.Group.{Group}
use Rattle.reports.specs.declared.table.Entry.{Entry}
use Rattle.reports.specs.declared.table.Image.{Image}
use Rattle.reports.specs.declared.table.Table.{Table}
use Rattle.reports.specs.declared.report.Reason.{Reason}
use Rattle.reports.specs.declared.report.Reason.TheVariants.{Needs, NeedsOne}
use Rattle.reports.specs.declared.report.Refusal.{Refusal}
use Rattle.reports.specs.Combination.{image_at, intact_entry}
use Rattle.reports.specs.Reasons.{is_refused, is_group_out_of_reach, is_out_of_reach}
use Rattle.reports.specs.StandardOrder.{own_reason, own_refusals, needs_reason, needs_reason_of_entry, unmet_dependency, unmet_group, IsNextNeed, IsInStandardOrder}
use Rattle.common.proofs.Options.{option_map-Some}
use Rattle.common.proofs.Lists.{each-push}
use Rattle.reports.proofs.Requests.{has_request-intact}
use Rattle.reports.proofs.Counts.{IsOnce, IsOnce-push, length-once}
use Rattle.chooser.proofs.Searches.{option_or-Some}
use Rattle.chooser.proofs.OwnRefusals.{IsOnce-own_refusals, own_reason-unlisted}

-- It begins with the requests that are refused by themselves.
pub standard-start : (table : Table) → IsInStandardOrder table (own_refusals table)
standard-start table = ([], sym (append-nil (own_refusals table)), λ k. tt)

-- It continues with the next need.
pub standard-push : (table : Table) (refusals : List Refusal) (refusal : Refusal) → IsInStandardOrder table refusals
    → IsNextNeed table refusals refusal → IsInStandardOrder table (refusals ++ refusal ∷ [])
standard-push table refusals refusal (later, is, each) need =
    let own = own_refusals table in (
      later ++ refusal ∷ [],
      ap (λ (before : List Refusal). before ++ refusal ∷ []) is
          ∙ append_assoc own later (refusal ∷ []),
      each-push
          (λ before next. IsNextNeed table (own ++ before) next) later refusal each
          (subst (λ (before : List Refusal). IsNextNeed table before refusal) is need),
    )

-- The first dependency of an entry that is out of reach.
pub record IsUnmetDependency
    (table : Table) (before : List Refusal) (i : ℕ) (entry : Entry) (reason : Reason) : Type 0 where
  pub dependency : Dependency
  pub found : find (is_out_of_reach table before i) entry.dependencies.items ≡ Some dependency
  pub names : Needs dependency.image dependency.minimum ≡ reason

-- The first group of an entry that is out of reach.
pub record IsUnmetGroup
    (table : Table) (before : List Refusal) (i : ℕ) (entry : Entry) (reason : Reason) : Type 0 where
  pub group : Group
  pub found : find (is_group_out_of_reach table before i) entry.groups.items ≡ Some group
  pub names : NeedsOne group ≡ reason

-- The need of the request of image i: a dependency or a group out of reach.
pub record HasNeed (table : Table) (before : List Refusal) (i : ℕ) (reason : Reason) : Type 0 where
  pub image : Image
  pub entry : Entry
  pub has_image : image_at table i ≡ Some image
  pub has_entry : intact_entry image.request ≡ Some entry
  pub unmet : IsUnmetDependency table before i entry reason ⊎ IsUnmetGroup table before i entry reason

-- A need of an entry is a dependency or a group.
unmet-of_entry : (table : Table) (before : List Refusal) (i : ℕ) (entry : Entry) (reason : Reason)
    → needs_reason_of_entry table before i entry ≡ Some reason
    → IsUnmetDependency table before i entry reason ⊎ IsUnmetGroup table before i entry reason
unmet-of_entry table before i entry reason is =
    elim (option_or-Some (unmet_dependency table before i entry) (unmet_group table before i entry) reason is) [
      | inl of_dependency ↦
          let (dependency, found, names) =
          option_map-Some _ (find (is_out_of_reach table before i) entry.dependencies.items) reason of_dependency in
          inl (record { dependency = dependency; found = found; names = names })
      | inr of_group ↦
          let (group, found, names) =
          option_map-Some _ (find (is_group_out_of_reach table before i) entry.groups.items) reason of_group in
          inr (record { group = group; found = found; names = names })
    ]

-- An image with a need has a request.
pub HasNeed-from_reason : (table : Table) (before : List Refusal) (i : ℕ) (reason : Reason)
    → needs_reason table before i ≡ Some reason → HasNeed table before i reason
HasNeed-from_reason table before i reason is =
    option_and_then_some _ (image_at table i) reason is
    (λ image has_image of_image.
    option_and_then_some _ (intact_entry image.request) reason of_image
    (λ entry has_entry of_entry. record {
      image = image;
      entry = entry;
      has_image = has_image;
      has_entry = has_entry;
      unmet = unmet-of_entry table before i entry reason of_entry;
    }))

-- A list of refusals as the choice makes it: in the standard order, with each request at most once.
pub record IsRefusalList (table : Table) (refusals : List Refusal) : Type 0 where
  pub standard : IsInStandardOrder table refusals
  pub once : IsOnce table refusals

-- It begins with the requests that are refused by themselves.
pub IsRefusalList-start : (table : Table) (refusals : List Refusal) → refusals ≡ own_refusals table
    → IsRefusalList table refusals
IsRefusalList-start table refusals is =
    subst (λ (listed : List Refusal). IsRefusalList table listed) (sym is)
    (record { standard = standard-start table; once = IsOnce-own_refusals table })

-- It continues with the next need.
pub IsRefusalList-push : (table : Table) (refusals before : List Refusal) (refusal : Refusal)
    → IsRefusalList table refusals → before ≡ refusals → IsNextNeed table before refusal
    → IsRefusalList table (refusals ++ refusal ∷ [])
IsRefusalList-push table refusals before refusal listed same need_before =
    let need = subst (λ (listed : List Refusal). IsNextNeed table listed refusal) same need_before in
    let has = HasNeed-from_reason table refusals refusal.image refusal.reason need.reason in
    record {
      standard = standard-push table refusals refusal listed.standard need;
      once = IsOnce-push table refusals refusal listed.once need.unrefused
          (has_request-intact table refusal.image has.image has.entry has.has_image has.has_entry);
    }

-- It continues only while an image isn't refused.
pub length-refusal_list : (table : Table) (refusals before : List Refusal) (refusal : Refusal)
    → IsRefusalList table refusals → before ≡ refusals → IsNextNeed table before refusal
    → length refusals < length table.images.items
length-refusal_list table refusals before refusal listed same need =
    omega (
      arith,
      length_push refusals refusal,
      length-once table (refusals ++ refusal ∷ [])
          (IsRefusalList-push table refusals before refusal listed same need).once,
    )

-- A request that a list in the standard order doesn't refuse isn't refused by itself.
pub own_reason-unrefused : (table : Table) (refusals : List Refusal) → IsInStandardOrder table refusals
    → (j : ℕ) (image : Image) → image_at table j ≡ Some image → is_refused refusals j ≡ false
    → own_reason table image image.request ≡ None
own_reason-unrefused table refusals (later, is, each) j image has_image unrefused =
    let own = own_refusals table in
    let parts = or_parts (is_refused own j) (is_refused later j)
    (sym (list_any-append (λ (any_refusal : Refusal). eqb any_refusal.image j) own later)
    ∙ ap (λ (listed : List Refusal). is_refused listed j) (sym is) ∙ unrefused) in
    own_reason-unlisted table j image has_image parts.0
