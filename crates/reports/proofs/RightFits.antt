-- If a report is right for a table that fits its fields, the report fits its own, so it has a text.
use Rattle.std.proofs.Common.{◌≡◌, ℕ, zero, suc, ◌+◌, ◌^◌, ◌<◌, ◌≤◌, Bool, true, false, List, [], ◌∷◌, length, map, take, Option, Some, inl, inr, refl, sym, ap, subst, ◌∙◌, arith}
use Rattle.std.specs.Prelude.{⊤, slice_get, unwrap_or, Contains}
use Rattle.std.specs.List.{AllByRecursion}
use Rattle.std.proofs.lemmas.Bool.{eqb-true}
use Rattle.std.proofs.lemmas.Option.{MatchOption-at_some, none-some, same_Some, slice_get-get_or, slice_get_cases, slice_get_within}
use Rattle.common.proofs.Lists.{AllByRecursion-append, AllByRecursion-at, AllByRecursion-parts, Passes-from_list_any}
use Rattle.common.proofs.Options.{cases_option, opened}
use Rattle.version_order.specs.declared.version.Version.{Version}
use Rattle.version_order.specs.declared.dependency.Dependency.{Dependency}
use Rattle.version_order.specs.declared.group.Group.{Group}
use Rattle.version_order.specs.VersionText.{FitsFields}
use Rattle.reports.specs.declared.table.Entry.{Entry}
use Rattle.reports.specs.declared.table.Request.{Request}
use Rattle.reports.specs.declared.table.Request.TheVariants as request
use Rattle.reports.specs.declared.table.Image.{Image}
use Rattle.reports.specs.declared.table.Table.{Table}
use Rattle.reports.specs.declared.table_line.TableLine.{TableLine}
use Rattle.reports.specs.declared.table_line.TableLine.TheVariants as table_line
use Rattle.reports.specs.declared.report.Reason.{Reason}
use Rattle.reports.specs.declared.report.Reason.TheVariants.{Damaged, Older, Counter, NoSuchImage, Needs, NeedsOne}
use Rattle.reports.specs.declared.report.Refusal.{Refusal}
use Rattle.reports.specs.declared.report.ReportedImage.{ReportedImage}
use Rattle.reports.specs.declared.report.Report.{Report}
use Rattle.reports.specs.Combination.{image_at, intact_entry, entry_in}
use Rattle.reports.specs.Reasons.{ReasonHolds}
use Rattle.reports.specs.Rightness.{IsRight}
use Rattle.reports.specs.DependencyText.{FitsDependency, FitsGroup}
use Rattle.reports.specs.TableText.{FitsTable, FitsTableLine, group_lines, image_lines, needs_lines, request_lines, table_lines}
use Rattle.reports.specs.ReportText.{FitsReason, FitsReport, FitsReportLine, IsReportText, refuse_lines, report_text, reported_line, reported_lines}
use Rattle.reports.proofs.Counts.{length-once}
use Rattle.reports.proofs.ReadBack.{printed_report_is_text}

-- An entry whose numbers fit their fields.
record FitsEntry (entry : Entry) : Type 0 where
  pub version : FitsFields entry.version
  pub dependencies : AllByRecursion FitsDependency entry.dependencies.items
  pub groups : AllByRecursion FitsGroup entry.groups.items

-- An image whose entries fit.
record FitsImage (image : Image) : Type 0 where
  pub running : FitsEntry image.running
  pub requested : (entry : Entry) → intact_entry image.request ≡ Some entry → FitsEntry entry

-- Elements whose lines fit.
fits_each : {A : Type 0} (line_of : A → TableLine) (Fits : A → Type 0) → ((x : A) → FitsTableLine (line_of x) → Fits x)
    → (xs : List A) → AllByRecursion FitsTableLine (map line_of xs) → AllByRecursion Fits xs
fits_each line_of Fits from [] fit = tt
fits_each line_of Fits from (x ∷ xs) fit = (from x fit.0, fits_each line_of Fits from xs fit.1)

-- An entry whose version and lines fit.
fits_entry : (entry : Entry) → FitsFields entry.version → AllByRecursion FitsTableLine (needs_lines entry)
    → FitsEntry entry
fits_entry entry version fit =
    let dependency_line = λ (dependency : Dependency). table_line.Needs dependency in
    let group_line = λ (group : Group). table_line.NeedsOne group in
    let parts = AllByRecursion-parts FitsTableLine (map dependency_line entry.dependencies.items)
    (group_lines entry.groups.items) fit in
    record {
      version = version;
      dependencies = fits_each dependency_line FitsDependency (λ x fits. fits) entry.dependencies.items parts.0;
      groups = fits_each group_line FitsGroup (λ x fits. fits) entry.groups.items parts.1;
    }

-- An element of a list whose elements fit.
fits_contained : {A : Type 0} (Fits : A → Type 0) (xs : List A) (x : A) → Contains xs x → AllByRecursion Fits xs → Fits x
fits_contained Fits xs x (k, within, is) fit =
    AllByRecursion-at Fits xs k x (slice_get-get_or xs k x within ∙ ap Some is) fit

-- A request whose lines fit.
fits_request : (asked : Request) → AllByRecursion FitsTableLine (request_lines asked) → (entry : Entry)
    → intact_entry asked ≡ Some entry → FitsEntry entry
fits_request request.None fit entry is = absurd (none-some entry is)
fits_request request.Damaged fit entry is = absurd (none-some entry is)
fits_request (request.Entry intact) fit entry is =
    subst FitsEntry (same_Some intact entry is) (fits_entry intact fit.0.0 fit.1)

-- An image whose lines fit.
fits_image : (n : ℕ) (image : Image) → AllByRecursion FitsTableLine (image_lines n image) → FitsImage image
fits_image n image fit =
    let parts = AllByRecursion-parts FitsTableLine (needs_lines image.running) (request_lines image.request) fit.1 in
    record {
      running = fits_entry image.running fit.0.1 parts.0;
      requested = fits_request image.request parts.1;
    }

-- The image at a place of images whose lines fit.
fits_image-at : (n : ℕ) (images : List Image) → AllByRecursion FitsTableLine (table_lines n images)
    → (k : ℕ) (image : Image) → slice_get images k ≡ Some image → FitsImage image
fits_image-at n [] fit k image at = absurd (none-some image at)
fits_image-at n (first ∷ images) fit zero image at =
    subst FitsImage (same_Some first image at)
    (fits_image n first (AllByRecursion-parts FitsTableLine (image_lines n first)
    (table_lines (n + 1) images) fit).0)
fits_image-at n (first ∷ images) fit (suc k) image at =
    fits_image-at (n + 1) images (AllByRecursion-parts FitsTableLine (image_lines n first)
    (table_lines (n + 1) images) fit).1 k image at

-- The entry that an image contributes fits.
fits_entry_in : (image : Image) (is_member : Bool) → FitsImage image → FitsEntry (entry_in image is_member)
fits_entry_in image false fits = fits.running
fits_entry_in image true fits =
    elim (cases_option (intact_entry image.request)) [
      | inl none ↦ subst (λ (found : Option Entry). FitsEntry (unwrap_or found image.running)) (sym none) fits.running
      | inr some ↦ subst (λ (found : Option Entry). FitsEntry (unwrap_or found image.running)) (sym some.1)
          (fits.requested some.0 some.1)
    ]

-- The line of an image fits.
fits_reported_line : (n : ℕ) (is_taken : Bool) (version : Version) → n < 2 ^ 8 → FitsFields version
    → FitsReportLine (reported_line n (record { is_taken = is_taken; version = version }))
fits_reported_line n true version small fits = (small, fits)
fits_reported_line n false version small fits = (small, fits)

-- The lines of images fit.
fits_reported_lines : (n : ℕ) (images : List ReportedImage) → n + length images ≤ 8
    → ((k : ℕ) (image : ReportedImage) → slice_get images k ≡ Some image → FitsFields image.version)
    → AllByRecursion FitsReportLine (reported_lines n images)
fits_reported_lines n [] room fits = tt
fits_reported_lines n (image ∷ images) room fits = (
  fits_reported_line n image.is_taken image.version (omega arith) (fits 0 image refl),
  fits_reported_lines
      (n + 1) images (omega arith) (λ k. fits (suc k)),
)

-- The lines of refusals fit.
fits_refuse_lines : (refusals : List Refusal)
    → ((k : ℕ) (refusal : Refusal) → slice_get refusals k ≡ Some refusal → (refusal.image < 2 ^ 8)
    × FitsReason refusal.reason) → AllByRecursion FitsReportLine (refuse_lines refusals)
fits_refuse_lines [] fits = tt
fits_refuse_lines (refusal ∷ refusals) fits = (fits 0 refusal refl, fits_refuse_lines refusals (λ k. fits (suc k)))

module _ (table : Table) (table_fits : FitsTable table) where
  -- Each image fits.
  image_fits : (j : ℕ) (image : Image) → image_at table j ≡ Some image → FitsImage image
  image_fits = fits_image-at 0 table.images.items table_fits.fields

  -- The number of an image is below 256.
  small_number : (j : ℕ) (image : Image) → image_at table j ≡ Some image → j < 2 ^ 8
  small_number j image has_image =
      let most : length table.images.items ≤ 8 = table_fits.most in
      omega (arith, most, slice_get_within table.images.items j image has_image)

  -- A request that is refused for a reason that holds is that of an image.
  refused_is_small : (before : List Refusal) (i : ℕ) (reason : Reason) → ReasonHolds table before i reason → i < 2 ^ 8
  refused_is_small before i Damaged holds =
      let (image, has_image, _) = opened (image_at table i) _ holds in small_number i image has_image
  refused_is_small before i Older holds =
      let (image, has_image, _) = opened (image_at table i) _ holds in small_number i image has_image
  refused_is_small before i Counter holds =
      let (image, has_image, _) = opened (image_at table i) _ holds in small_number i image has_image
  refused_is_small before i (NoSuchImage j) holds =
      let (image, has_image, _) = opened (image_at table i) _ holds in small_number i image has_image
  refused_is_small before i (Needs j minimum) holds =
      let (image, has_image, _) = opened (image_at table i) _ holds in small_number i image has_image
  refused_is_small before i (NeedsOne group) holds =
      let (image, has_image, _) = opened (image_at table i) _ holds in small_number i image has_image

  -- A reason that holds names a dependency or a group of the table.
  reason_fits : (before : List Refusal) (i : ℕ) (reason : Reason) → ReasonHolds table before i reason
      → FitsReason reason
  reason_fits before i Damaged holds = tt
  reason_fits before i Older holds = tt
  reason_fits before i Counter holds = tt
  reason_fits before i (NoSuchImage j) holds =
      let (image, has_image, asked) = opened (image_at table i) _ holds in
      let (entry, has_entry, needs) = opened (intact_entry image.request) _ asked in
      let dependencies = ((image_fits i image has_image).requested entry has_entry).dependencies in
      let dependency = Passes-from_list_any _ entry.dependencies.items needs.0 in
      let fits = AllByRecursion-at FitsDependency entry.dependencies.items dependency.place dependency.element dependency.at dependencies in
      subst (λ (n : ℕ). n < 2 ^ 8) (eqb-true _ j dependency.passes) fits.0
  reason_fits before i (Needs j minimum) holds =
      let (image, has_image, asked) = opened (image_at table i) _ holds in
      let (entry, has_entry, needs) = opened (intact_entry image.request) _ asked in
      fits_contained FitsDependency entry.dependencies.items (record { image = j; minimum = minimum }) needs.0
      ((image_fits i image has_image).requested entry has_entry).dependencies
  reason_fits before i (NeedsOne group) holds =
      let (image, has_image, asked) = opened (image_at table i) _ holds in
      let (entry, has_entry, needs) = opened (intact_entry image.request) _ asked in
      fits_contained FitsGroup entry.groups.items group needs.0
      ((image_fits i image has_image).requested entry has_entry).groups

  module _ (report : Report) (right : IsRight table report) where
    -- The version of each reported image fits.
    version_fits : (k : ℕ) (reported : ReportedImage) → slice_get report.images.items k ≡ Some reported
        → FitsFields reported.version
    version_fits k reported at =
        let within = slice_get_within report.images.items k reported at in
        elim (slice_get_cases table.images.items k).1 [
          | inl found ↦
              let image = found.0 in
              let has_image : image_at table k ≡ Some image = found.2 in
              let is = MatchOption-at_some ⊤ _ reported at
              (MatchOption-at_some ⊤ _ image has_image (right.versions k)) in
              subst FitsFields (sym is) (fits_entry_in image reported.is_taken (image_fits k image has_image)).version
          | inr past ↦ absurd (omega (arith, within, right.images, past.0))
        ]

    -- Each refusal fits.
    refusal_fits : (k : ℕ) (refusal : Refusal) → slice_get report.refusals.items k ≡ Some refusal
        → (refusal.image < 2 ^ 8) × FitsReason refusal.reason
    refusal_fits k refusal at =
        let before = take k report.refusals.items in
        let holds = MatchOption-at_some ⊤ _ refusal at (right.founded k) in (
          refused_is_small before refusal.image refusal.reason holds,
          reason_fits before refusal.image refusal.reason holds,
        )

    -- The report fits.
    FitsReport-from_right : FitsReport report
    FitsReport-from_right =
        let most : length table.images.items ≤ 8 = table_fits.most in
        let fewer = length-once table report.refusals.items (record { once = λ j. omega (arith, right.requests j) }) in
        record {
          some = omega (arith, right.images, table_fits.some);
          most = omega (arith, right.images, most);
          few = omega (arith, fewer, most);
          fields = AllByRecursion-append FitsReportLine (reported_lines 0 report.images.items)
              (refuse_lines report.refusals.items)
              (fits_reported_lines 0 report.images.items (omega (arith, right.images, most)) version_fits)
              (fits_refuse_lines report.refusals.items refusal_fits);
        }

-- A report that is right for a table that fits has a text.
pub right_report_has_text : (table : Table) (report : Report) → FitsTable table → IsRight table report
    → IsReportText (report_text report) report
right_report_has_text table report fits right =
    printed_report_is_text report (FitsReport-from_right table fits report right)
