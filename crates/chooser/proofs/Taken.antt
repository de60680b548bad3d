-- The requests that aren't refused in the end are a valid combination.
use Rattle.std.proofs.Common.{◌≡◌, ℕ, ◌≤◌, Bool, true, false, cond, eqb, not, ◌&&◌, List, Option, Some, None, inl, inr, refl, sym, ap, subst, ◌∙◌}
use Rattle.std.specs.Prelude.{⊤, IfSome, find, is_none, is_some, nat_lt, unwrap_or}
use Rattle.std.specs.List.{list_all}
use Rattle.std.specs.Option.{option_map_or}
use Rattle.std.proofs.lemmas.Bool.{false≢true, and_from, and_parts, and_right, cases_Bool, cond-false, cond_both, eqb-true, ltb-false, not-false, not-true, not_from_false, not_from_true}
use Rattle.std.proofs.lemmas.Option.{MatchOption-at_some, none-some, same_Some}
use Rattle.version_order.specs.declared.dependency.Dependency.{Dependency}
use Rattle.version_order.specs.declared.group.Group.{Group}
use Rattle.version_order.specs.Order.{is_older, IsAtLeast}
use Rattle.reports.specs.declared.table.Entry.{Entry}
use Rattle.reports.specs.declared.table.Request.{Request}
use Rattle.reports.specs.declared.table.Request.TheVariants as request
use Rattle.reports.specs.declared.table.Image.{Image}
use Rattle.reports.specs.declared.table.Table.{Table}
use Rattle.reports.specs.declared.report.Reason.TheVariants.{Damaged, Older, Counter}
use Rattle.reports.specs.declared.report.Refusal.{Refusal}
use Rattle.reports.specs.Combination.{image_at, intact_entry, entry_in, is_group_met, is_met, meets_all, IsValid, running_set}
use Rattle.reports.specs.Reasons.{is_refused, best_version, is_group_out_of_reach, is_in_reach, is_out_of_reach}
use Rattle.reports.specs.Rightness.{has_request, is_requested}
use Rattle.reports.specs.StandardOrder.{own_reason, own_reason_of_entry, needs_reason, unmet_dependency, unmet_group}
use Rattle.chooser.specs.Reported.{is_taken_unless_refused}
use Rattle.chooser.proofs.Searches.{list_any-weaker, option_or-None}
use Rattle.common.proofs.Options.{IfSome-from, IsSomeAnd-from, is_some_value, some_value, option_map-None, option_and_then-None, option_map_or-true}
use Rattle.common.proofs.Lists.{list_all-from_finds, list_all-weaker}
use Rattle.reports.proofs.Members.{entry_in-member}
use Rattle.reports.proofs.BestVersion.{version_of_request, newer_version}
use Rattle.version_order.proofs.OrderLaws.{IsAtLeast_refl, IsAtLeast_trans}

-- The requested entry has the requested version.
version_of_request-reached : (requested : Option Entry) (running : Entry)
    → IsAtLeast (unwrap_or requested running).version (version_of_request requested running)
version_of_request-reached None running = IsAtLeast_refl running.version
version_of_request-reached (Some entry) running = IsAtLeast_refl entry.version

-- A requested entry that isn't older has the newer version.
newer_version-reached : (requested : Option Entry) (running : Entry)
    → IfSome requested (λ entry. IsAtLeast entry.version running.version)
    → IsAtLeast (unwrap_or requested running).version (newer_version requested running)
newer_version-reached None running newer = IsAtLeast_refl running.version
newer_version-reached (Some entry) running newer =
    cond_both (is_older running.version entry.version) entry.version running.version
    (λ v. IsAtLeast entry.version v) (λ _. IsAtLeast_refl entry.version) (λ _. newer)

-- The best version is reached if all requests that aren't refused are taken.
best-reached : (requested : Option Entry) (running : Entry) (is_own is_refused is_member : Bool)
    → (is_own ≡ true → is_member ≡ true) → is_member ≡ (is_some requested && not is_refused)
    → IfSome requested (λ entry. is_refused ≡ false → IsAtLeast entry.version running.version)
    → IsAtLeast (cond is_member (unwrap_or requested running) running).version
    (cond is_own (version_of_request requested running)
    (cond is_refused running.version (newer_version requested running)))
best-reached requested running true is_refused true own member newer = version_of_request-reached requested running
best-reached requested running true is_refused false own member newer = absurd (false≢true (own refl))
best-reached requested running false true true own member newer =
    absurd (false≢true (and_parts (is_some requested) false (sym member)).1)
best-reached requested running false true false own member newer = IsAtLeast_refl running.version
best-reached None running false false is_member own member newer =
    cond_both is_member running running (λ (entry : Entry). IsAtLeast entry.version running.version)
    (λ _. IsAtLeast_refl running.version) (λ _. IsAtLeast_refl running.version)
best-reached (Some entry) running false false true own member newer =
    newer_version-reached (Some entry) running (newer refl)
best-reached (Some entry) running false false false own member newer = absurd (false≢true member)

-- A requested entry that isn't refused by itself.
record IsAccepted (table : Table) (image : Image) (entry : Entry) : Type 0 where
  pub at_least_running : IsAtLeast entry.version image.running.version
  pub counter_accepted : image.floor ≤ entry.counter
  pub none_missing : find (λ dependency. is_none (image_at table dependency.image)) entry.dependencies.items ≡ None

-- If a test chose nothing, it failed.
fails_for_none : {X : Type 0} (test : Bool) (x : X) (other : Option X) → cond test (Some x) other ≡ None
    → (test ≡ false) × (other ≡ None)
fails_for_none true x other none = absurd (none-some x (sym none))
fails_for_none false x other none = (refl, none)

-- An intact request without a reason of its own isn't refused by itself.
IsAccepted-from_none : (table : Table) (image : Image) (asked : Request) (entry : Entry)
    → intact_entry asked ≡ Some entry → own_reason table image asked ≡ None → IsAccepted table image entry
IsAccepted-from_none table image request.None entry has_entry none = absurd (none-some entry has_entry)
IsAccepted-from_none table image request.Damaged entry has_entry none = absurd (none-some Damaged (sym none))
IsAccepted-from_none table image (request.Entry intact) entry has_entry none =
    let none' : own_reason_of_entry table image entry ≡ None =
    subst (λ (any_entry : Entry). own_reason_of_entry table image any_entry ≡ None)
    (same_Some intact entry has_entry) none in
    let not_older = fails_for_none (is_older entry.version image.running.version) Older _ none' in
    let not_low = fails_for_none (nat_lt entry.counter image.floor) Counter _ not_older.1 in
    record {
      at_least_running = not_from_false _ not_older.0;
      counter_accepted = ltb-false entry.counter image.floor not_low.0;
      none_missing = option_map-None _ (find
          (λ dependency. is_none (image_at table dependency.image)) entry.dependencies.items) not_low.1;
    }

-- All remaining requests have no reason.
pub record IsSettled (table : Table) (refusals : List Refusal) : Type 0 where
  pub own : (j : ℕ) (image : Image) → image_at table j ≡ Some image → is_refused refusals j ≡ false
      → own_reason table image image.request ≡ None
  pub needs : (j : ℕ) → is_refused refusals j ≡ false → needs_reason table refusals j ≡ None

-- An image whose intact request isn't refused.
record IsTaken (table : Table) (refusals : List Refusal) (j : ℕ) (image : Image) (entry : Entry) : Type 0 where
  pub has_image : image_at table j ≡ Some image
  pub has_entry : intact_entry image.request ≡ Some entry
  pub unrefused : is_refused refusals j ≡ false

-- No refused request is taken.
none_if_refused : (refusals : List Refusal) (j : ℕ) → is_refused refusals j ≡ true → (found : Option Image)
    → option_map_or (is_taken_unless_refused refusals j) found false ≡ false
none_if_refused refusals j refused None = refl
none_if_refused refusals j refused (Some image) = and_right _ (not (is_refused refusals j)) (not_from_true _ refused)

-- A request without a reason is intact.
intact_if_no_reason : (table : Table) (image : Image) (unrefused : Bool) → unrefused ≡ true → (asked : Request)
    → own_reason table image asked ≡ None → (is_some (intact_entry asked) && unrefused) ≡ is_requested asked
intact_if_no_reason table image unrefused is request.None none = refl
intact_if_no_reason table image unrefused is request.Damaged none = absurd (none-some Damaged (sym none))
intact_if_no_reason table image unrefused is (request.Entry entry) none = is

-- All requests that aren't refused are taken.
all_if_unrefused : (table : Table) (refusals : List Refusal) (j : ℕ)
    → ((image : Image) → image_at table j ≡ Some image → own_reason table image image.request ≡ None)
    → is_refused refusals j ≡ false → (found : Option Image) → image_at table j ≡ found
    → option_map_or (is_taken_unless_refused refusals j) found false ≡ option_map_or
    (λ image. is_requested image.request) found false
all_if_unrefused table refusals j own unrefused None is = refl
all_if_unrefused table refusals j own unrefused (Some image) is =
    intact_if_no_reason table image (not (is_refused refusals j)) (not_from_false _ unrefused) image.request
    (own image is)

module _ (table : Table) (refusals : List Refusal) (taken : ℕ → Bool)
    (takes : (j : ℕ) → taken j ≡ option_map_or (is_taken_unless_refused refusals j) (image_at table j) false)
    (settled : IsSettled table refusals) where
  -- Whether the request of an image is taken.
  taken-at : (j : ℕ) (image : Image) → image_at table j ≡ Some image
      → taken j ≡ is_taken_unless_refused refusals j image
  taken-at j image has_image = takes j ∙ ap (λ found. option_map_or
      (is_taken_unless_refused refusals j) found false) has_image

  -- A taken image has an intact request that isn't refused.
  IsTaken-at : (j : ℕ) (image : Image) → image_at table j ≡ Some image → taken j ≡ true → (entry : Entry)
      × IsTaken table refusals j image entry
  IsTaken-at j image has_image is =
      let parts = and_parts (is_some (intact_entry image.request)) (not (is_refused refusals j))
      (sym (taken-at j image has_image) ∙ is) in
      let (entry, has_entry) = is_some_value (intact_entry image.request) parts.0 in
      (entry, record { has_image = has_image; has_entry = has_entry; unrefused = not-true _ parts.1 })

  -- A taken image is in the table.
  IsTaken-from_taken : (j : ℕ) → taken j ≡ true → (image : Image) × (entry : Entry)
      × IsTaken table refusals j image entry
  IsTaken-from_taken j is =
      let (image, has_image, _) = option_map_or-true (is_taken_unless_refused refusals j) (image_at table j) (sym
      (takes j) ∙ is) in
      let (entry, is_taken) = IsTaken-at j image has_image is in
      (image, entry, is_taken)

  -- A taken image isn't refused by itself.
  accepted : (j : ℕ) (image : Image) (entry : Entry) → image_at table j ≡ Some image
      → intact_entry image.request ≡ Some entry → is_refused refusals j ≡ false → IsAccepted table image entry
  accepted j image entry has_image has_entry unrefused =
      IsAccepted-from_none table image image.request entry has_entry (settled.own j image has_image unrefused)

  -- An alternative in reach is met.
  is_met-in_reach : (own : ℕ) → taken own ≡ true → (dependency : Dependency)
      → is_in_reach table refusals own dependency ≡ true → is_met table taken dependency ≡ true
  is_met-in_reach own is dependency in_reach =
      let j = dependency.image in
      let (image, has_image, enough) = option_map_or-true _ (image_at table j) in_reach in
      let best = best_version refusals own j image in
      let reached =
      best-reached (intact_entry image.request) image.running (eqb j own) (is_refused refusals j) (taken j)
      (λ same. ap taken (eqb-true j own same) ∙ is) (taken-at j image has_image)
      (IfSome-from (intact_entry image.request) _
      (λ entry has_entry unrefused. (accepted j image entry has_image has_entry unrefused).at_least_running)) in
      ap (λ found. option_map_or (λ any_image. not
      (is_older (entry_in any_image (taken j)).version dependency.minimum)) found false) has_image
      ∙ IsAtLeast_trans (entry_in image (taken j)).version best dependency.minimum reached enough

  -- A dependency on an image that exists is met if it isn't out of reach.
  is_met-within_reach : (own : ℕ) → taken own ≡ true → (dependency : Dependency)
      → is_none (image_at table dependency.image) ≡ false → is_out_of_reach table refusals own dependency ≡ false
      → is_met table taken dependency ≡ true
  is_met-within_reach own is dependency exists within =
      let j = dependency.image in
      let (image, has_image) = some_value (image_at table j) exists in
      let enough : IsAtLeast (best_version refusals own j image) dependency.minimum =
      not_from_false _ (sym (ap (λ found. option_map_or
      (λ any_image. is_older (best_version refusals own j any_image) dependency.minimum) found false) has_image)
      ∙ within) in
      is_met-in_reach own is dependency
      (ap (λ found. option_map_or (λ any_image. not
      (is_older (best_version refusals own j any_image) dependency.minimum)) found false) has_image ∙ enough)

  -- A group is met if it isn't out of reach.
  is_group_met-in_reach : (own : ℕ) → taken own ≡ true → (group : Group)
      → is_group_out_of_reach table refusals own group ≡ false → is_group_met table taken group ≡ true
  is_group_met-in_reach own is group within =
      list_any-weaker (is_in_reach table refusals own) (is_met table taken) (is_met-in_reach own is)
      group.alternatives.items (not-false _ within)

  -- No dependency and no group of an unrefused request is out of reach.
  none_out_of_reach : (j : ℕ) (image : Image) (entry : Entry) → IsTaken table refusals j image entry
      → (find (is_out_of_reach table refusals j) entry.dependencies.items ≡ None)
      × (find (is_group_out_of_reach table refusals j) entry.groups.items ≡ None)
  none_out_of_reach j image entry is =
      let none = option_or-None (unmet_dependency table refusals j entry) (unmet_group table refusals j entry)
      (option_and_then-None _ (intact_entry image.request) entry is.has_entry
      (option_and_then-None _ (image_at table j) image is.has_image (settled.needs j is.unrefused))) in (
        option_map-None _ (find (is_out_of_reach table refusals j) entry.dependencies.items) none.0,
        option_map-None _ (find (is_group_out_of_reach table refusals j) entry.groups.items) none.1,
      )

  -- The dependencies and groups of a taken image are met.
  met-taken : (j : ℕ) (image : Image) (entry : Entry) → taken j ≡ true → IsTaken table refusals j image entry
      → meets_all table taken entry ≡ true
  met-taken j image entry is_taken is =
      let none = none_out_of_reach j image entry is in
      let out_of_reach = is_group_out_of_reach table refusals j in
      and_from (list_all (is_met table taken) entry.dependencies.items)
      (list_all (is_group_met table taken) entry.groups.items)
      (list_all-from_finds (λ (any_dependency : Dependency). is_none (image_at table any_dependency.image))
      (is_out_of_reach table refusals j) (is_met table taken)
      (is_met-within_reach j is_taken) entry.dependencies.items
      (accepted j image entry is.has_image is.has_entry is.unrefused).none_missing none.0)
      (list_all-from_finds out_of_reach out_of_reach (is_group_met table taken)
      (λ group within _. is_group_met-in_reach j is_taken group within) entry.groups.items none.1 none.1)

  -- The version that runs then is at least the one that ran before.
  entry_in-at_least_running : (j : ℕ) (image : Image) → image_at table j ≡ Some image
      → IsAtLeast (entry_in image (taken j)).version image.running.version
  entry_in-at_least_running j image has_image =
      let P : Entry → Type 0 = λ entry. IsAtLeast entry.version image.running.version in
      elim (cases_Bool (taken j)) [
        | inl is ↦
            let (entry, is_taken) = IsTaken-at j image has_image is in
            subst P (sym (entry_in-member image entry (taken j) is is_taken.has_entry))
            (accepted j image entry has_image is_taken.has_entry is_taken.unrefused).at_least_running
        | inr runs_on ↦ subst P (sym (cond-false (taken j) _ image.running runs_on))
            (IsAtLeast_refl image.running.version)
      ]

  -- A dependency that the running images meet stays met.
  is_met-running : (dependency : Dependency) → is_met table running_set dependency ≡ true
      → is_met table taken dependency ≡ true
  is_met-running dependency met =
      let j = dependency.image in
      let (image, has_image, enough) = option_map_or-true _ (image_at table j) met in
      ap (λ found. option_map_or (λ any_image. not
      (is_older (entry_in any_image (taken j)).version dependency.minimum)) found false) has_image
      ∙ IsAtLeast_trans (entry_in image (taken j)).version image.running.version dependency.minimum
      (entry_in-at_least_running j image has_image) enough

  -- A group that the running images meet stays met.
  is_group_met-running : (group : Group) → is_group_met table running_set group ≡ true
      → is_group_met table taken group ≡ true
  is_group_met-running group met =
      list_any-weaker (is_met table running_set) (is_met table taken) is_met-running group.alternatives.items met

  -- All dependencies and groups of the running images stay met.
  meets_all-running : (entry : Entry) → meets_all table running_set entry ≡ true → meets_all table taken entry ≡ true
  meets_all-running entry met =
      let parts = and_parts (list_all (is_met table running_set) entry.dependencies.items)
      (list_all (is_group_met table running_set) entry.groups.items) met in
      and_from (list_all (is_met table taken) entry.dependencies.items)
      (list_all (is_group_met table taken) entry.groups.items)
      (list_all-weaker (is_met table running_set) (is_met table taken) is_met-running entry.dependencies.items parts.0)
      (list_all-weaker (is_group_met table running_set) (is_group_met table taken) is_group_met-running
      entry.groups.items parts.1)

  -- The combination is valid.
  pub IsValid-taken : IsValid table running_set → IsValid table taken
  IsValid-taken running = record {
    members = λ j is.
        let (image, entry, is_taken) = IsTaken-from_taken j is in
        let is_accepted = accepted j image entry is_taken.has_image is_taken.has_entry is_taken.unrefused in
        IsSomeAnd-from (image_at table j) _ image is_taken.has_image
        (IsSomeAnd-from (intact_entry image.request) _ entry is_taken.has_entry
        (is_accepted.at_least_running, is_accepted.counter_accepted));
    met = λ j.
        IfSome-from (image_at table j) _
        (λ image has_image.
        let P : Entry → Type 0 = λ entry. meets_all table taken entry ≡ true in
        elim (cases_Bool (taken j)) [
          | inl is ↦
              let (entry, is_taken) = IsTaken-at j image has_image is in
              subst P (sym (entry_in-member image entry (taken j) is is_taken.has_entry))
              (met-taken j image entry is is_taken)
          | inr runs_on ↦
              subst P (sym (cond-false (taken j) _ image.running runs_on))
              (meets_all-running image.running (MatchOption-at_some ⊤ _ image has_image (running.met j)))
        ]);
  }

  -- A refused request isn't taken.
  pub taken-refused : (j : ℕ) → is_refused refusals j ≡ true → taken j ≡ false
  taken-refused j refused = takes j ∙ none_if_refused refusals j refused (image_at table j)

  -- A request that isn't refused is taken.
  pub taken-unrefused : (j : ℕ) → is_refused refusals j ≡ false → taken j ≡ has_request table j
  taken-unrefused j unrefused = takes j ∙ all_if_unrefused table refusals j (λ image has_image.
      settled.own j image has_image unrefused) unrefused (image_at table j) refl
