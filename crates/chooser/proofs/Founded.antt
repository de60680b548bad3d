-- A list in the standard order is founded: each reason holds at its place.
use Rattle.std.proofs.Common.{◌≡◌, ℕ, ◌<◌, cond, List, ◌++◌, take, Some, None, inl, inr, refl, sym, ap, subst, ◌∙◌}
use Rattle.std.specs.Prelude.{◌==◌, IfSome, IsTrue, Contains, find, is_none, nat_lt, slice_get}
use Rattle.std.specs.List.{enumerate_from, list_any}
use Rattle.std.proofs.lemmas.Bool.{cases_Bool, cond-true, cond-false, ltb-true, eq-eqb}
use Rattle.std.proofs.lemmas.Map.Keys.{any_passes_from_place}
use Rattle.std.proofs.lemmas.Option.{IfSome_then, none-some, same_Some}
use Rattle.version_order.specs.declared.dependency.Dependency.{Dependency}
use Rattle.version_order.specs.Order.{is_older, IsOlder}
use Rattle.reports.specs.declared.table.Entry.{Entry}
use Rattle.reports.specs.declared.table.Request.{Request}
use Rattle.reports.specs.declared.table.Request.TheVariants as request
use Rattle.reports.specs.declared.table.Image.{Image}
use Rattle.reports.specs.declared.table.Table.{Table}
use Rattle.reports.specs.declared.report.Reason.{Reason}
use Rattle.reports.specs.declared.report.Reason.TheVariants.{Damaged, Older, Counter, NoSuchImage, Needs, NeedsOne}
use Rattle.reports.specs.declared.report.Refusal.{Refusal}
use Rattle.reports.specs.Combination.{image_at, intact_entry, RequestMeets}
use Rattle.reports.specs.Reasons.{is_group_out_of_reach, is_out_of_reach, ReasonHolds, IsFounded}
use Rattle.reports.specs.StandardOrder.{missing_image, own_reason, own_reason_of_entry, own_refusal, own_refusals, needs_reason, IsInStandardOrder}
use Rattle.common.proofs.Options.{IfSome-from, IsSomeAnd-from, no_value, option_map-Some}
use Rattle.common.proofs.Lists.{StandsIn, find-Some, Contains-from_stands, filter_map-source, each-append}
use Rattle.common.proofs.Numbered.{numbered-stands}
use Rattle.chooser.proofs.Order.{HasNeed-from_reason}

-- If a reason holds, so does one that is equal to it.
holds_as : (table : Table) (before : List Refusal) (i : ℕ) (found reason : Reason) → found ≡ reason
    → ReasonHolds table before i found → ReasonHolds table before i reason
holds_as table before i found reason same holds = subst (ReasonHolds table before i) same holds

module _ (table : Table) (before : List Refusal) (i : ℕ) (image : Image)
    (has_image : image_at table i ≡ Some image) where
  -- A property of the requested entry is one of the image's request.
  meets : (P : Image → Entry → Type 0) (entry : Entry) → intact_entry image.request ≡ Some entry → P image entry
      → RequestMeets table i P
  meets P entry has_entry holds = IsSomeAnd-from (image_at table i) _ image has_image (IsSomeAnd-from
      (intact_entry image.request) (P image) entry has_entry holds)

  -- The reason `NoSuchImage` holds.
  missing-holds : (entry : Entry) → intact_entry image.request ≡ Some entry → (reason : Reason)
      → missing_image table entry ≡ Some reason → ReasonHolds table before i reason
  missing-holds entry has_entry reason is =
      let is_missing = λ (any_dependency : Dependency). is_none (image_at table any_dependency.image) in
      let (dependency, found, names) = option_map-Some _ (find is_missing entry.dependencies.items) reason is in
      let (stands, missing) = find-Some is_missing entry.dependencies.items dependency found in
      holds_as table before i (NoSuchImage dependency.image) reason names
      (meets
      (λ (any_image : Image) (any_entry : Entry). IsTrue
      (list_any (λ any_dependency. any_dependency.image == dependency.image) any_entry.dependencies.items)
      × (image_at table dependency.image ≡ None)) entry has_entry (
        any_passes_from_place (λ (any_dependency : Dependency).
            any_dependency.image == dependency.image) entry.dependencies.items stands.place dependency stands.at
            (eq-eqb dependency.image dependency.image refl),
        no_value (image_at table dependency.image) missing,
      ))

  -- The reason of an intact request holds.
  entry-holds : (entry : Entry) → intact_entry image.request ≡ Some entry → (reason : Reason)
      → own_reason_of_entry table image entry ≡ Some reason → ReasonHolds table before i reason
  entry-holds entry has_entry reason is =
      let older = is_older entry.version image.running.version in
      let low = nat_lt entry.counter image.floor in
      elim (cases_Bool older) [
        | inl below ↦
            holds_as table before i Older reason (same_Some Older reason (sym (cond-true older _ _ below) ∙ is))
            (meets (λ (any_image : Image) (any_entry : Entry).
            IsOlder any_entry.version any_image.running.version) entry has_entry below)
        | inr new_enough ↦
            let rest : cond low (Some Counter) (missing_image table entry) ≡ Some reason =
            sym (cond-false older _ _ new_enough) ∙ is in
            elim (cases_Bool low) [
              | inl below ↦
                  holds_as table before i Counter reason
                  (same_Some Counter reason (sym (cond-true low _ _ below) ∙ rest))
                  (meets (λ (any_image : Image) (any_entry : Entry).
                  any_entry.counter < any_image.floor) entry has_entry
                  (ltb-true entry.counter image.floor below))
              | inr high_enough ↦ missing-holds entry has_entry reason (sym (cond-false low _ _ high_enough) ∙ rest)
            ]
      ]

  -- The reason of a request holds.
  own-holds : (asked : Request) → image.request ≡ asked → (reason : Reason)
      → own_reason table image asked ≡ Some reason → ReasonHolds table before i reason
  own-holds request.None asks reason is = absurd (none-some reason is)
  own-holds request.Damaged asks reason is =
      holds_as table before i Damaged reason (same_Some Damaged reason is)
      (IsSomeAnd-from (image_at table i)
      (λ (any_image : Image). any_image.request ≡ request.Damaged) image has_image asks)
  own-holds (request.Entry entry) asks reason is = entry-holds entry (ap intact_entry asks) reason is

-- A refusal of a request by itself holds after any refusals.
own_refusal-holds : (table : Table) (refusal : Refusal) → StandsIn (own_refusals table) refusal
    → (before : List Refusal) → ReasonHolds table before refusal.image refusal.reason
own_refusal-holds table refusal stands before =
    let (numbered, stands_numbered, gives) =
    filter_map-source (own_refusal table) (enumerate_from 0 table.images.items) refusal stands in
    let (reason, is, same) = option_map-Some _ (own_reason table numbered.1 numbered.1.request) refusal gives in
    subst (λ (any_refusal : Refusal). ReasonHolds table before any_refusal.image any_refusal.reason) same
    (own-holds table before numbered.0 numbered.1
    (numbered-stands table.images.items numbered stands_numbered) numbered.1.request refl reason is)

-- A need holds.
need-holds : (table : Table) (before : List Refusal) (i : ℕ) (reason : Reason)
    → needs_reason table before i ≡ Some reason → ReasonHolds table before i reason
need-holds table before i reason is =
    let need = HasNeed-from_reason table before i reason is in
    elim need.unmet [
      | inl unmet ↦
          let dependency = unmet.dependency in
          let (stands, out_of_reach) =
          find-Some (is_out_of_reach table before i) need.entry.dependencies.items dependency unmet.found in
          holds_as table before i (Needs dependency.image dependency.minimum) reason unmet.names
          (meets table before i need.image need.has_image
          (λ (any_image : Image) (any_entry : Entry). Contains any_entry.dependencies.items dependency
          × IsTrue (is_out_of_reach table before i dependency)) need.entry need.has_entry
          (Contains-from_stands need.entry.dependencies.items dependency stands, out_of_reach))
      | inr unmet ↦
          let group = unmet.group in
          let (stands, out_of_reach) =
          find-Some (is_group_out_of_reach table before i) need.entry.groups.items group unmet.found in
          holds_as table before i (NeedsOne group) reason unmet.names
          (meets table before i need.image need.has_image
          (λ (any_image : Image) (any_entry : Entry). Contains any_entry.groups.items group
          × IsTrue (is_group_out_of_reach table before i group)) need.entry need.has_entry
          (Contains-from_stands need.entry.groups.items group stands, out_of_reach))
    ]

-- A list in the standard order is founded.
pub IsFounded-from_standard : (table : Table) (refusals : List Refusal) → IsInStandardOrder table refusals
    → IsFounded table refusals
IsFounded-from_standard table refusals (later, is, each) =
    let own = own_refusals table in
    let Q : List Refusal → Refusal → Type 0 = λ before refusal. ReasonHolds table before refusal.image refusal.reason in
    let front : (k : ℕ) → IfSome (slice_get own k) (Q (take k own)) =
    λ k. IfSome-from (slice_get own k) _
    (λ refusal at. own_refusal-holds table refusal (record { place = k; at = at }) (take k own))
    in
    let back : (k : ℕ) → IfSome (slice_get later k) (Q (own ++ take k later)) =
    λ k. IfSome_then (slice_get later k) (each k)
    (λ refusal need. need-holds table (own ++ take k later) refusal.image refusal.reason need.reason)
    in
    subst (IsFounded table) (sym is) (each-append Q own later front back)
