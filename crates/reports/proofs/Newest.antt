-- No valid combination has a newer version of any image than the greatest one.
use Rattle.std.proofs.Common.{◌≡◌, ℕ, Bool, Some, inl, inr, sym, subst, ◌∙◌}
use Rattle.std.proofs.lemmas.Bool.{cases_Bool}
use Rattle.std.proofs.lemmas.Option.{same_Some}
use Rattle.version_order.specs.Order.{IsAtLeast}
use Rattle.version_order.proofs.OrderLaws.{IsAtLeast_refl}
use Rattle.reports.specs.declared.table.Entry.{Entry}
use Rattle.reports.specs.declared.table.Image.{Image}
use Rattle.reports.specs.declared.table.Table.{Table}
use Rattle.reports.specs.Combination.{image_at, entry_in, IsAtLeastIn, IsGreatest, IsValid}
use Rattle.common.proofs.Options.{IfSome-from}
use Rattle.reports.proofs.Members.{IsMember-from_valid, entry_in-member}

module _ (table : Table) (j : ℕ) (image : Image) (has_image : image_at table j ≡ Some image) where
  -- No version of a valid combination is older than the running one.
  at_least_running : (taken : ℕ → Bool) → IsValid table taken
      → IsAtLeast (entry_in image (taken j)).version image.running.version
  at_least_running taken valid =
      elim (cases_Bool (taken j)) [
        | inl is ↦
            let (there, entry, member) = IsMember-from_valid table taken valid j is in
            let same = same_Some there image (sym member.has_image ∙ has_image) in
            let contributed = entry_in-member there entry (taken j) is member.has_entry in
            subst (λ (i : Image). IsAtLeast (entry_in i (taken j)).version i.running.version) same
            (subst (λ (e : Entry). IsAtLeast e.version there.running.version) (sym contributed) member.at_least_running)
        | inr not ↦ subst (λ b. IsAtLeast (entry_in image b).version image.running.version) (sym not)
            (IsAtLeast_refl image.running.version)
      ]

  -- No version of the greatest combination is older than that of a valid one.
  at_least_other : (greatest other : ℕ → Bool) → IsGreatest table greatest → IsValid table other
      → IsAtLeast (entry_in image (greatest j)).version (entry_in image (other j)).version
  at_least_other greatest other is valid =
      elim (cases_Bool (other j)) [
        | inl member ↦
            let both : other j ≡ greatest j = member ∙ sym (is.contains other valid j member) in
            subst (λ b. IsAtLeast (entry_in image b).version (entry_in image (other j)).version) both
            (IsAtLeast_refl (entry_in image (other j)).version)
        | inr not ↦ subst (λ b. IsAtLeast (entry_in image (greatest j)).version (entry_in image b).version)
            (sym not) (at_least_running greatest is.valid)
      ]

-- The version of each image in the greatest combination is at least the one in any valid
-- combination.
pub greatest_is_newest : (table : Table) (greatest other : ℕ → Bool) → IsGreatest table greatest
    → IsValid table other → (j : ℕ) → IsAtLeastIn table greatest other j
greatest_is_newest table greatest other is valid j =
    IfSome-from (image_at table j) (λ image. IsAtLeast (entry_in image (greatest j)).version
    (entry_in image (other j)).version)
    (λ image has_image. at_least_other table j image has_image greatest other is valid)
