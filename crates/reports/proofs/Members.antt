-- The members of a valid combination.
use Rattle.std.proofs.Common.{◌≡◌, ℕ, ◌≤◌, Bool, true, Some, ap, ◌∙◌, subst}
use Rattle.std.specs.Prelude.{⊤, unwrap_or}
use Rattle.std.specs.List.{list_all}
use Rattle.std.proofs.lemmas.Bool.{and_parts, cond-true}
use Rattle.std.proofs.lemmas.Option.{MatchOption-at_some}
use Rattle.version_order.specs.Order.{IsAtLeast}
use Rattle.reports.specs.declared.table.Entry.{Entry}
use Rattle.reports.specs.declared.table.Image.{Image}
use Rattle.reports.specs.declared.table.Table.{Table}
use Rattle.reports.specs.Combination.{image_at, intact_entry, entry_in, is_group_met, is_met, meets_all, IsValid}
use Rattle.common.proofs.Options.{opened}

-- Image j and its requested entry, as a member of a valid combination has them.
pub record IsMember (table : Table) (taken : ℕ → Bool) (j : ℕ) (image : Image) (entry : Entry) : Type 0 where
  pub has_image : image_at table j ≡ Some image
  pub has_entry : intact_entry image.request ≡ Some entry
  pub at_least_running : IsAtLeast entry.version image.running.version
  pub counter_accepted : image.floor ≤ entry.counter
  pub met : list_all (is_met table taken) entry.dependencies.items ≡ true
  pub groups_met : list_all (is_group_met table taken) entry.groups.items ≡ true

-- A member contributes its requested entry.
pub entry_in-member : (image : Image) (entry : Entry) (is_member : Bool) → is_member ≡ true
    → intact_entry image.request ≡ Some entry → entry_in image is_member ≡ entry
entry_in-member image entry is_member member has_entry =
    cond-true is_member _ _ member ∙ ap (λ requested. unwrap_or requested image.running) has_entry

-- Each member of a valid combination has an image and a requested entry.
pub IsMember-from_valid : (table : Table) (taken : ℕ → Bool) → IsValid table taken → (j : ℕ) → taken j ≡ true
    → (image : Image) × (entry : Entry) × IsMember table taken j image entry
IsMember-from_valid table taken valid j member =
    let (image, has_image, intact) = opened (image_at table j) _ (valid.members j member) in
    let (entry, has_entry, accepted) = opened (intact_entry image.request) _ intact in
    let all_met : meets_all table taken entry ≡ true =
    subst (λ (contributed : Entry). meets_all table taken contributed ≡ true)
    (entry_in-member image entry (taken j) member has_entry) (MatchOption-at_some ⊤ _ image has_image (valid.met j)) in
    let met = and_parts (list_all (is_met table taken) entry.dependencies.items)
    (list_all (is_group_met table taken) entry.groups.items) all_met in (
      image,
      entry,
      record {
        has_image = has_image;
        has_entry = has_entry;
        at_least_running = accepted.0;
        counter_accepted = accepted.1;
        met = met.0;
        groups_met = met.1;
      },
    )
