-- Lemmas about the rows of a summary while devices are added.
use Rattle.std.proofs.Common.{◌≡◌, ℕ, zero, suc, ◌+◌, ◌<◌, List, [], ◌∷◌, ◌++◌, length, get_or, take, BTreeMap, String, add-zero, zero-add, append_assoc, arith, sym, ap, ◌∙◌, subst}
use Rattle.std.proofs.lemmas.Grind.{flat_map-append}
use Rattle.std.proofs.lemmas.List.{append-nil}
use Rattle.std.proofs.lemmas.List.Concat.{flat_map-cons}
use Rattle.std.specs.List.{flat_map}
use Rattle.reports.specs.declared.report.ReportedImage.{ReportedImage}
use Rattle.inspecting.specs.Plan.{Planned}
use Rattle.inspecting.specs.Row.{Row}
use Rattle.inspecting.specs.Rows.{IsTallied}
use Rattle.inspecting.specs.Summary.{rows_of, taken_image, taken_images}
use Rattle.inspecting.specs.SummaryRows.{AddsRows}
use Rattle.inspecting.specs.declared.fleet.rows.Tally.{Tally}

-- The images that are taken, and one more.
taken_images-more : (n : ℕ) (images : List ReportedImage) (i : ℕ) (d : ReportedImage) → i < length images
    → taken_images n (take i images) ++ taken_image (n + i) (get_or images i d) ≡ taken_images n (take (i + 1) images)
taken_images-more n [] i d within = absurd (omega arith)
taken_images-more n (image ∷ images) zero d within = ap (λ m. taken_image m image) (add-zero n) ∙ sym (append-nil (taken_image n image))
taken_images-more n (image ∷ images) (suc i) d within =
    let moved : n + suc i ≡ (n + 1) + i = omega arith in
    let more : suc (i + 1) ≡ suc i + 1 = omega arith in
    append_assoc (taken_image n image) (taken_images (n + 1) (take i images)) (taken_image (n + suc i) (get_or images i d))
    ∙ ap (λ t. taken_image n image ++ t) (ap (λ m. taken_images (n + 1) (take i images) ++ taken_image m (get_or images i d)) moved
    ∙ taken_images-more (n + 1) images i d (omega arith))
    ∙ ap (λ m. taken_images n (take m (image ∷ images))) more

-- The same for images that are numbered from 0.
pub taken_images-next : (images : List ReportedImage) (i : ℕ) (d : ReportedImage) → i < length images
    → taken_images 0 (take i images) ++ taken_image i (get_or images i d) ≡ taken_images 0 (take (i + 1) images)
taken_images-next images i d within =
    ap (λ m. taken_images 0 (take i images) ++ taken_image m (get_or images i d)) (sym (zero-add i)) ∙ taken_images-more 0 images i d within

module _ {Y : Type 0} where
  -- Rows are added, and then more.
  pub AddsRows-both : (rows more : List Row) (first second third : BTreeMap (String Y) Tally)
      → AddsRows rows first second → AddsRows more second third → AddsRows (rows ++ more) first third
  AddsRows-both rows more first second third one two added was =
      subst (λ all. IsTallied all third) (append_assoc added rows more) (two (added ++ rows) (one added was))

  -- A device is added.
  pub AddsRows-device : (plan : List Planned) (planned : Planned) (old new : BTreeMap (String Y) Tally)
      → AddsRows (rows_of planned) old new → IsTallied (flat_map rows_of plan) old → IsTallied (flat_map rows_of (plan ++ planned ∷ [])) new
  AddsRows-device plan planned old new adds was =
      let all = flat_map-append rows_of plan (planned ∷ []) ∙ ap (λ rows. flat_map rows_of plan ++ rows) (flat_map-cons rows_of planned [] ∙ append-nil (rows_of planned)) in
      subst (λ rows. IsTallied rows new) (sym all) (adds (flat_map rows_of plan) was)
