-- A report that takes the requests that aren't refused in the end is right.
use Rattle.std.proofs.Common.{◌≡◌, ℕ, ◌+◌, false, List, length, Some, None, inl, inr, zero-add, refl, sym, ap, subst, ◌∙◌, arith}
use Rattle.std.specs.Prelude.{◌==◌, option_map, slice_get}
use Rattle.std.specs.List.{enumerate_from}
use Rattle.std.specs.Option.{option_map_or}
use Rattle.std.proofs.lemmas.Bool.{cases_Bool}
use Rattle.std.proofs.lemmas.List.{length-map}
use Rattle.std.proofs.lemmas.List.FromFn.{length-enumerate_from}
use Rattle.std.proofs.lemmas.Option.{same_Some, slice_get-map}
use Rattle.reports.specs.declared.table.Image.{Image}
use Rattle.reports.specs.declared.table.Table.{Table}
use Rattle.reports.specs.declared.report.Refusal.{Refusal}
use Rattle.reports.specs.declared.report.ReportedImage.{ReportedImage}
use Rattle.reports.specs.declared.report.Report.{Report}
use Rattle.reports.specs.Combination.{image_at, entry_in, IsValid, running_set}
use Rattle.reports.specs.Reasons.{is_refused, times_refused}
use Rattle.reports.specs.Rightness.{IsRight, taken_in, has_request, once_if}
use Rattle.reports.specs.StandardOrder.{IsInStandardOrder, needs_reason}
use Rattle.chooser.specs.Reported.{is_taken_unless_refused, reported_image, reported_images}
use Rattle.common.proofs.Options.{IfSome-from, option_map-option_map, option_map_or-option_map}
use Rattle.common.proofs.Numbered.{slice_get-enumerate_from}
use Rattle.common.proofs.Lists.{count_by-none, count_by-some}
use Rattle.reports.proofs.Counts.{IsOnce, once_if-le}
use Rattle.chooser.proofs.Order.{own_reason-unrefused}
use Rattle.chooser.proofs.Founded.{IsFounded-from_standard}
use Rattle.chooser.proofs.Taken.{IsSettled, IsValid-taken, taken-refused, taken-unrefused}

-- What is reported of image j.
slice_get-reported_images : (table : Table) (refusals : List Refusal) (j : ℕ)
    → slice_get (reported_images table refusals) j ≡ option_map (λ image. reported_image refusals (j, image))
    (image_at table j)
slice_get-reported_images table refusals j =
    let images = table.images.items in
    slice_get-map (reported_image refusals) (enumerate_from 0 images) j
    ∙ ap (option_map (reported_image refusals))
    (slice_get-enumerate_from 0 j images
    ∙ ap (λ n. option_map (λ (x : Image). (n, x)) (slice_get images j)) (zero-add j))
    ∙ option_map-option_map (reported_image refusals) (λ (x : Image). (j, x)) (slice_get images j)

-- A complete list of refusals.
pub record IsComplete (table : Table) (refusals : List Refusal) : Type 0 where
  pub standard : IsInStandardOrder table refusals
  pub once : IsOnce table refusals
  pub none_left : (j : ℕ) → is_refused refusals j ≡ false → needs_reason table refusals j ≡ None

module _ (table : Table) (report : Report) (complete : IsComplete table report.refusals.items)
    (images : report.images.items ≡ reported_images table report.refusals.items) where
  -- The requests that aren't refused have no reason.
  settled : IsSettled table report.refusals.items
  settled = record {
    own =
        own_reason-unrefused table report.refusals.items complete.standard;
    needs = complete.none_left;
  }

  -- What is reported of image j.
  reported-at : (j : ℕ) → slice_get report.images.items j ≡ option_map (λ image.
      reported_image report.refusals.items (j, image)) (image_at table j)
  reported-at j = ap (λ items. slice_get items j) images ∙ slice_get-reported_images table report.refusals.items j

  -- The images that the report takes.
  takes : (j : ℕ)
      → taken_in report j ≡ option_map_or (is_taken_unless_refused report.refusals.items j) (image_at table j) false
  takes j =
      ap (λ found. option_map_or (λ (reported : ReportedImage). reported.is_taken) found false) (reported-at j)
      ∙ option_map_or-option_map (λ (reported : ReportedImage). reported.is_taken)
      (λ image. reported_image report.refusals.items (j, image)) (image_at table j) false

  -- The version that the report names.
  version-reported : (j : ℕ) (image : Image) → image_at table j ≡ Some image → (reported : ReportedImage)
      → slice_get report.images.items j ≡ Some reported
      → reported.version ≡ (entry_in image reported.is_taken).version
  version-reported j image has_image reported at =
      let is : reported_image report.refusals.items (j, image) ≡ reported =
      same_Some _ reported (sym (reported-at j
      ∙ ap (option_map (λ any_image. reported_image report.refusals.items (j, any_image))) has_image) ∙ at) in
      subst (λ (any_reported : ReportedImage). any_reported.version ≡
      (entry_in image any_reported.is_taken).version) is refl

  -- Each request is either taken or refused, and only once.
  requests-once : (j : ℕ)
      → times_refused report.refusals.items j + once_if (taken_in report j) ≡ once_if (has_request table j)
  requests-once j =
      let refusals = report.refusals.items in
      elim (cases_Bool (is_refused refusals j)) [
        | inl refused ↦
            omega (
              arith,
              complete.once.once j,
              once_if-le (has_request table j),
              count_by-some
                  (λ (any_refusal : Refusal). any_refusal.image == j) refusals refused,
              ap once_if
                  (taken-refused table refusals (taken_in report) takes settled j refused),
            )
        | inr unrefused ↦
            omega (
              arith,
              count_by-none (λ (any_refusal : Refusal). any_refusal.image == j) refusals unrefused,
              ap once_if
                  (taken-unrefused table refusals (taken_in report) takes settled j unrefused),
            )
      ]

  -- The report is right.
  pub IsRight-from_complete : IsValid table running_set → IsRight table report
  IsRight-from_complete running = record {
    images = ap length images
        ∙ length-map (enumerate_from 0 table.images.items) (reported_image report.refusals.items)
        ∙ length-enumerate_from 0 table.images.items;
    versions = λ j. IfSome-from (image_at table j) _
        (λ image has_image. IfSome-from (slice_get report.images.items j) _ (version-reported j image has_image));
    requests = requests-once;
    valid = IsValid-taken table report.refusals.items (taken_in report) takes settled running;
    founded = IsFounded-from_standard table report.refusals.items complete.standard;
  }
