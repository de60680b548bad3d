-- The combination of a right report contains every valid one, because no request that a valid
-- combination takes is refused.
use Rattle.std.proofs.Common.{◌≡◌, ℕ, zero, suc, ◌<◌, Bool, true, false, not, List, take, Some, None, count_by, inl, inr, sym, ap, ◌∙◌, eqb, arith}
use Rattle.std.specs.Prelude.{◌==◌, ⊤, IsTrue, Contains, slice_get}
use Rattle.std.specs.List.{list_all, list_any}
use Rattle.std.specs.Option.{option_map_or}
use Rattle.std.proofs.lemmas.Bool.{both_ways, false≢true, not-true, false_from_ne_true, cases_Bool, eqb-true}
use Rattle.std.proofs.lemmas.Map.Keys.{any_passes_from_place}
use Rattle.std.proofs.lemmas.Option.{MatchOption-at_some, none-some, slice_get-get_or}
use Rattle.version_order.specs.declared.dependency.Dependency.{Dependency}
use Rattle.version_order.specs.declared.group.Group.{Group}
use Rattle.version_order.specs.Order.{is_older, IsOlder}
use Rattle.reports.specs.declared.table.Entry.{Entry}
use Rattle.reports.specs.declared.table.Image.{Image}
use Rattle.reports.specs.declared.table.Table.{Table}
use Rattle.reports.specs.declared.report.Reason.{Reason}
use Rattle.reports.specs.declared.report.Reason.TheVariants.{Damaged, Older, Counter, NoSuchImage, Needs, NeedsOne}
use Rattle.reports.specs.declared.report.Refusal.{Refusal}
use Rattle.reports.specs.declared.report.Report.{Report}
use Rattle.reports.specs.Combination.{image_at, intact_entry, entry_in, is_group_met, is_met, RequestMeets, IsValid, IsGreatest}
use Rattle.reports.specs.Reasons.{is_refused, best_version, is_group_out_of_reach, is_in_reach, is_out_of_reach, ReasonHolds, IsFounded}
use Rattle.reports.specs.Rightness.{IsRight, taken_in, has_request, once_if}
use Rattle.common.proofs.Lists.{Passes-from_list_any, Passes-from_count_by, IfSome-from_list_all, slice_get-take}
use Rattle.common.proofs.Options.{IsSomeAnd-at, option_map_or-true, option_map_or-at}
use Rattle.version_order.proofs.OrderLaws.{IsAtLeast_trans}
use Rattle.reports.proofs.BestVersion.{best-at_least}
use Rattle.reports.proofs.Members.{IsMember, IsMember-from_valid}
use Rattle.reports.proofs.Requests.{has_request-intact}

-- If all elements of a list pass a test, so does one that the list contains.
passes_where_contained : {X : Type 0} (p : X → Bool) (xs : List X) (x : X) → list_all p xs ≡ true → Contains xs x
    → p x ≡ true
passes_where_contained p xs x all (k, within, is) =
    MatchOption-at_some ⊤ _ x (slice_get-get_or xs k x within ∙ ap Some is) (IfSome-from_list_all p xs k all)

module _ (table : Table) (other : ℕ → Bool) (valid : IsValid table other) where
  -- If no member of a valid combination is refused, an alternative that the combination meets is in
  -- reach of a member.
  in_reach : (before : List Refusal) (unrefused : (j : ℕ) → other j ≡ true → is_refused before j ≡ false)
      (i : ℕ) (member : other i ≡ true) (dependency : Dependency) → is_met table other dependency ≡ true
      → is_in_reach table before i dependency ≡ true
  in_reach before unrefused i member dependency met =
      let j = dependency.image in
      let (image, has_image, reaches) = option_map_or-true _ (image_at table j) met in
      let best = best-at_least (intact_entry image.request) image.running (eqb j i) (is_refused before j) (other j)
      (λ own. ap other (eqb-true j i own) ∙ member) (unrefused j) in
      ap (λ found. option_map_or (λ any_image. not
      (is_older (best_version before i j any_image) dependency.minimum)) found false) has_image
      ∙ IsAtLeast_trans (best_version before i j image) (entry_in image (other j)).version dependency.minimum
      best reaches

  -- Then a dependency that the combination meets isn't out of reach.
  within_reach : (before : List Refusal) (unrefused : (j : ℕ) → other j ≡ true → is_refused before j ≡ false)
      (i : ℕ) (member : other i ≡ true) (dependency : Dependency) → is_met table other dependency ≡ true
      → is_out_of_reach table before i dependency ≡ true → ⊥
  within_reach before unrefused i member dependency met out_of_reach =
      let (image, has_image, reaches) = option_map_or-true _ (image_at table dependency.image)
      (in_reach before unrefused i member dependency met) in
      both_ways _ (not-true _ reaches)
      (option_map_or-at _ (image_at table dependency.image) image has_image out_of_reach)

  -- Then a group that the combination meets has an alternative in reach.
  group_within_reach : (before : List Refusal) (unrefused : (j : ℕ) → other j ≡ true → is_refused before j ≡ false)
      (i : ℕ) (member : other i ≡ true) (group : Group) → is_group_met table other group ≡ true
      → is_group_out_of_reach table before i group ≡ true → ⊥
  group_within_reach before unrefused i member group met out_of_reach =
      let alternatives = group.alternatives.items in
      let alternative = Passes-from_list_any (is_met table other) alternatives met in
      false≢true (sym (not-true _ out_of_reach)
      ∙ any_passes_from_place (is_in_reach table before i) alternatives alternative.place alternative.element
      alternative.at (in_reach before unrefused i member alternative.element alternative.passes))

  -- A property of the request of a member.
  requested_at : (i : ℕ) (image : Image) (entry : Entry) → IsMember table other i image entry
      → (P : Image → Entry → Type 0) → RequestMeets table i P → P image entry
  requested_at i image entry is P meets =
      IsSomeAnd-at (intact_entry image.request) (P image) entry is.has_entry
      (IsSomeAnd-at (image_at table i) _ image is.has_image meets)

  -- The request of a member lists something of which this holds.
  unmet_at : {A : Type 0} (items : Entry → List A) (item : A) (unmet : Bool) (i : ℕ) (image : Image) (entry : Entry)
      → IsMember table other i image entry
      → RequestMeets table i (λ im e. Contains (items e) item × IsTrue unmet)
      → Contains (items entry) item × IsTrue unmet
  unmet_at items item unmet i image entry is holds =
      requested_at i image entry is (λ (im : Image) (e : Entry). Contains (items e) item × IsTrue unmet) holds

  -- If no member is refused before, no reason to refuse a member holds.
  no_reason : (before : List Refusal) (unrefused : (j : ℕ) → other j ≡ true → is_refused before j ≡ false) (i : ℕ)
      (member : other i ≡ true) (image : Image) (entry : Entry) → IsMember table other i image entry
      → (reason : Reason) → ReasonHolds table before i reason → ⊥
  no_reason before unrefused i member image entry is Damaged holds =
      let damaged = IsSomeAnd-at (image_at table i) _ image is.has_image holds in
      none-some entry (sym (ap intact_entry damaged) ∙ is.has_entry)
  no_reason before unrefused i member image entry is Older holds =
      let older = requested_at i image entry is
      (λ (im : Image) (e : Entry). IsOlder e.version im.running.version) holds in
      both_ways _ (not-true _ is.at_least_running) older
  no_reason before unrefused i member image entry is Counter holds =
      let below = requested_at i image entry is (λ (im : Image) (e : Entry). e.counter < im.floor) holds in
      let accepted = is.counter_accepted in
      omega arith
  no_reason before unrefused i member image entry is (NoSuchImage j) holds =
      let (names, missing) = requested_at i image entry is (λ (im : Image) (e : Entry). IsTrue
      (list_any (λ dependency. dependency.image == j) e.dependencies.items)
      × (image_at table j ≡ None)) holds in
      let dependency = Passes-from_list_any _ entry.dependencies.items names in
      let met = MatchOption-at_some ⊤ _ dependency.element dependency.at
      (IfSome-from_list_all _ entry.dependencies.items dependency.place is.met) in
      let (present, has_image, _) = option_map_or-true _ (image_at table dependency.element.image) met in
      none-some present (sym missing ∙ ap (image_at table) (sym (eqb-true _ j dependency.passes)) ∙ has_image)
  no_reason before unrefused i member image entry is (Needs j minimum) holds =
      let dependency : Dependency = record { image = j; minimum = minimum } in
      let (contained, out_of_reach) = unmet_at (λ (e : Entry). e.dependencies.items) dependency _ i image entry is holds in
      within_reach before unrefused i member dependency
      (passes_where_contained _ entry.dependencies.items dependency is.met contained) out_of_reach
  no_reason before unrefused i member image entry is (NeedsOne group) holds =
      let (contained, out_of_reach) = unmet_at (λ (e : Entry). e.groups.items) group _ i image entry is holds in
      group_within_reach before unrefused i member group
      (passes_where_contained _ entry.groups.items group is.groups_met contained) out_of_reach

  -- If no member is refused before a place, none is refused at that place.
  no_member_at : (refusals : List Refusal) → IsFounded table refusals
      → (k : ℕ) (earlier : (i : ℕ) (refusal : Refusal) → i < k → slice_get refusals i ≡ Some refusal
      → other refusal.image ≡ true → ⊥) (refusal : Refusal) → slice_get refusals k ≡ Some refusal
      → other refusal.image ≡ true → ⊥
  no_member_at refusals founded k earlier refusal at member =
      let unrefused : (j : ℕ) → other j ≡ true → is_refused (take k refusals) j ≡ false =
      λ j taken. false_from_ne_true _
      (λ refused.
      let before = Passes-from_list_any _ (take k refusals) refused in
      let (below, stands) = slice_get-take k before.place refusals before.element before.at in
      earlier before.place before.element below stands (ap other (eqb-true _ j before.passes) ∙ taken))
      in
      let (image, entry, is) = IsMember-from_valid table other valid refusal.image member in
      no_reason (take k refusals) unrefused refusal.image member image entry is refusal.reason
      (MatchOption-at_some ⊤ _ refusal at (founded k))

  -- No member is refused at the first n places.
  no_member_below : (refusals : List Refusal) → IsFounded table refusals → (n k : ℕ) (refusal : Refusal) → k < n
      → slice_get refusals k ≡ Some refusal → other refusal.image ≡ true → ⊥
  no_member_below refusals founded zero k refusal below at member = absurd (omega arith)
  no_member_below refusals founded (suc n) k refusal below at member =
      no_member_at refusals founded k
      (λ i earlier less. no_member_below refusals founded n i earlier (omega arith)) refusal at member

  -- Each member has a request.
  has_request-member : (j : ℕ) → other j ≡ true → has_request table j ≡ true
  has_request-member j member =
      let (image, entry, is) = IsMember-from_valid table other valid j member in
      has_request-intact table j image entry is.has_image is.has_entry

  -- Each member is taken.
  taken_in-member : (report : Report) → IsRight table report → (j : ℕ) → other j ≡ true → taken_in report j ≡ true
  taken_in-member report right j member =
      elim (cases_Bool (taken_in report j)) [
        | inl taken ↦ taken
        | inr not_taken ↦
            let refusals = report.refusals.items in
            let counted : 0 < count_by (λ refusal. refusal.image == j) refusals =
            omega (arith, right.requests j, ap once_if not_taken, ap once_if (has_request-member j member))
            in
            let refused = Passes-from_count_by _ refusals counted in
            absurd
            (no_member_below refusals right.founded (suc refused.place) refused.place refused.element
            (omega arith) refused.at
            (ap other (eqb-true _ j refused.passes) ∙ member))
      ]

-- The combination of a right report is the greatest.
pub right_is_greatest : (table : Table) (report : Report) → IsRight table report → IsGreatest table (taken_in report)
right_is_greatest table report right =
    record { valid = right.valid; contains = λ other valid. taken_in-member table other valid report right }
