-- The requests of all images are decided once if those of the first images are and no other is
-- refused.
use Rattle.std.proofs.Common.{◌≡◌, ℕ, ◌<◌, ◌≤◌, false, length, count_by, inl, inr, ap, arith}
use Rattle.std.specs.Prelude.{◌==◌, All}
use Rattle.std.specs.Option.{option_map_or}
use Rattle.std.proofs.lemmas.Bool.{cases_lt, eqb-true}
use Rattle.std.proofs.lemmas.Option.{slice_get_past, slice_get_within, get_or_from_slice_get}
use Rattle.reports.specs.declared.table.Table.{Table}
use Rattle.reports.specs.declared.report.Report.{Report}
use Rattle.reports.specs.Rightness.{taken_in, is_requested, has_request, once_if, IsDecidedOnce}
use Rattle.common.proofs.Lists.{Passes-from_count_by}

module _ (table : Table) (report : Report) (count : ℕ) (in_table : length table.images.items ≤ count)
    (in_report : length report.images.items ≤ count) where
  -- No request is taken beyond the last image.
  taken_in-past : (j : ℕ) → count ≤ j → taken_in report j ≡ false
  taken_in-past j past =
      ap (λ found. option_map_or (λ image. image.is_taken) found false)
      (slice_get_past report.images.items j (omega arith))

  -- There is no request beyond the last image.
  has_request-past : (j : ℕ) → count ≤ j → has_request table j ≡ false
  has_request-past j past =
      ap (λ found. option_map_or (λ image. is_requested image.request) found false)
      (slice_get_past table.images.items j (omega arith))

  -- If no request is refused beyond the last image, there is nothing to decide there.
  decided_past : All (λ refusal. refusal.image < count) report.refusals.items → (j : ℕ) → count ≤ j
      → IsDecidedOnce table report j
  decided_past below j past =
      let refusals = report.refusals.items in
      elim (cases_lt 0 (count_by (λ refusal. refusal.image == j) refusals)) [
        | inl some ↦
            let refused = Passes-from_count_by _ refusals some in
            let named : refused.element.image ≡ j = eqb-true _ j refused.passes in
            let within = slice_get_within refusals refused.place refused.element refused.at in
            let is = get_or_from_slice_get refusals refused.place refused.element refused.element refused.at in
            let small : refused.element.image < count = rw is at (below refused.place refused.element within) in
            absurd (omega arith)
        | inr none ↦ omega (arith, ap once_if (taken_in-past j past), ap once_if (has_request-past j past))
      ]

  -- If the requests of the first images are decided once and no other is refused, all are decided
  -- once.
  pub all_decided : All (λ refusal. refusal.image < count) report.refusals.items
      → ((j : ℕ) → j < count → IsDecidedOnce table report j) → (j : ℕ) → IsDecidedOnce table report j
  all_decided below decided j = elim (cases_lt j count) [
    | inl before ↦ decided j before
    | inr past ↦
        decided_past below j past
  ]
