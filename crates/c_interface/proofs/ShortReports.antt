-- A bound for the length of a report's text.
use Rattle.std.proofs.Common.{◌≡◌, ℕ, ◌+◌, ◌*◌, ◌^◌, ◌<◌, ◌≤◌, Bool, true, false, List, [], ◌∷◌, ◌++◌, length, arith, length-append, ap, inl, inr}
use Rattle.std.specs.Prelude.{codes, decimal}
use Rattle.std.specs.List.{AllByRecursion}
use Rattle.std.proofs.lemmas.Fmt.{length-decimal-le}
use Rattle.std.proofs.lemmas.List.Concat.{flat_map-append}
use Rattle.common.specs.Lines.{◌␣◌, printed_lines}
use Rattle.common.proofs.Lists.{AllByRecursion-parts}
use Rattle.version_order.specs.declared.version.Version.{Version}
use Rattle.version_order.specs.declared.dependency.Dependency.{Dependency}
use Rattle.version_order.specs.declared.group.Group.{Group}
use Rattle.version_order.specs.VersionText.{FitsFields, version_text}
use Rattle.reports.specs.declared.report.Reason.{Reason}
use Rattle.reports.specs.declared.report.Reason.TheVariants.{Damaged, Older, Counter, NoSuchImage, Needs, NeedsOne}
use Rattle.reports.specs.declared.report.Refusal.{Refusal}
use Rattle.reports.specs.declared.report.Report.{Report}
use Rattle.reports.specs.declared.report.ReportedImage.{ReportedImage}
use Rattle.reports.specs.declared.report_line.ReportLine.TheVariants as line
use Rattle.reports.specs.DependencyText.{alternatives_text, needs_one_text, FitsDependency, FitsGroup}
use Rattle.reports.specs.ReportText.{reason_text, refuse_lines, report_line_text, report_text, reported_line, reported_lines, FitsReason, FitsReport, FitsReportLine}
use Rattle.c_interface.specs.Texts.{HasNoRoom}

-- Two texts with a byte between them.
joined : (before after : List ℕ) (byte m n : ℕ) → length before ≤ m → length after ≤ n
    → length (before ++ byte ∷ after) ≤ m + (1 + n)
joined before after byte m n first second = omega (arith, length-append before (byte ∷ after), first, second)

small : (n : ℕ) → n < 2 ^ 8 → length (decimal n) ≤ 3
small n fits = length-decimal-le 3 n (omega arith) (omega (arith, fits)) (omega (arith, fits))

version_short : (version : Version) → FitsFields version → length (version_text version) ≤ 24
version_short version fits =
    let revision = length-decimal-le 5 version.revision (omega arith) (omega (arith, fits.revision)) (omega (arith, fits.revision)) in
    let build = length-decimal-le 10 version.build (omega arith) (omega (arith, fits.build)) (omega (arith, fits.build)) in
    joined (decimal version.major) _ 46 3 20 (small version.major fits.major)
    (joined (decimal version.minor) _ 46 3 16 (small version.minor fits.minor)
    (joined (decimal version.revision) (decimal version.build) 43 5 10 revision build))

-- The number of an image, and a version.
pair_short : (image : ℕ) (version : Version) → image < 2 ^ 8 → FitsFields version
    → length (decimal image ␣ version_text version) ≤ 28
pair_short image version small_image fits =
    joined (decimal image) (version_text version) 32 3 24 (small image small_image) (version_short version fits)

alternatives_short : (alternatives : List Dependency) → AllByRecursion FitsDependency alternatives
    → length (alternatives_text alternatives) ≤ 29 * length alternatives
unfolding alternatives_text
alternatives_short [] fit = omega arith
alternatives_short (alternative ∷ alternatives) fit =
    omega (
      arith,
      alternatives_short alternatives fit.1,
      pair_short alternative.image alternative.minimum fit.0.0 fit.0.1,
      length-append (decimal alternative.image ␣ version_text alternative.minimum) (alternatives_text alternatives),
    )

group_short : (group : Group) → FitsGroup group → length (needs_one_text group) ≤ 125
group_short group fits =
    let alternatives = group.alternatives.items in
    let most : length alternatives ≤ 4 = fits.0.most in
    omega (
      arith,
      most,
      alternatives_short alternatives fits.1,
      length-append (codes "needs-one") (alternatives_text alternatives),
    )

reason_short : (reason : Reason) → FitsReason reason → length (reason_text reason) ≤ 125
reason_short Damaged fits = omega arith
reason_short Older fits = omega arith
reason_short Counter fits = omega arith
reason_short (NoSuchImage image) fits =
    let short = joined (codes "no-such-image") (decimal image) 32 13 3 (omega arith) (small image fits) in omega (arith, short)
reason_short (Needs image minimum) fits =
    let short = joined (codes "needs") (decimal image ␣ version_text minimum) 32 5 28 (omega arith)
    (pair_short image minimum fits.0 fits.1) in
    omega (arith, short)
reason_short (NeedsOne group) fits = group_short group fits

refusals_short : (refusals : List Refusal) → AllByRecursion FitsReportLine (refuse_lines refusals)
    → length (printed_lines report_line_text (refuse_lines refusals)) ≤ 137 * length refusals
refusals_short [] fit = omega arith
refusals_short (refusal ∷ refusals) fit =
    let said = report_line_text (line.Refuse refusal) in
    let short : length said ≤ 136 = joined (codes "refuse") (decimal refusal.image ␣ reason_text refusal.reason) 32 6 129 (omega arith)
    (joined (decimal refusal.image) (reason_text refusal.reason) 32 3 125 (small refusal.image fit.0.0)
    (reason_short refusal.reason fit.0.1)) in
    let others = printed_lines report_line_text (refuse_lines refusals) in
    omega (arith, short, refusals_short refusals fit.1, length-append said (10 ∷ []), length-append (said ++ 10 ∷ []) others)

image_short : (n : ℕ) (taken : Bool) (version : Version)
    → FitsReportLine (reported_line n (record { is_taken = taken; version = version }))
    → length (report_line_text (reported_line n (record { is_taken = taken; version = version }))) ≤ 33
image_short n true version fits = joined (codes "take") _ 32 4 28 (omega arith) (pair_short n version fits.0 fits.1)
image_short n false version fits =
    let short = joined (codes "run") (decimal n ␣ version_text version) 32 3 28 (omega arith) (pair_short n version fits.0 fits.1) in
    omega (arith, short)

images_short : (n : ℕ) (images : List ReportedImage) → AllByRecursion FitsReportLine (reported_lines n images)
    → length (printed_lines report_line_text (reported_lines n images)) ≤ 34 * length images
images_short n [] fit = omega arith
images_short n (image ∷ images) fit =
    let said = report_line_text (reported_line n image) in
    let others = printed_lines report_line_text (reported_lines (n + 1) images) in
    let short : length said ≤ 33 = image_short n image.is_taken image.version fit.0 in
    omega (arith, short, images_short (n + 1) images fit.1, length-append said (10 ∷ []), length-append (said ++ 10 ∷ []) others)

pub report_short : (report : Report) → FitsReport report → length (report_text report) ≤ 2048
report_short report fits =
    let images = reported_lines 0 report.images.items in
    let refusals = refuse_lines report.refusals.items in
    let parts = AllByRecursion-parts FitsReportLine images refusals fits.fields in
    let most : length report.images.items ≤ 8 = fits.most in
    let few : length report.refusals.items ≤ 8 = fits.few in
    let whole : report_text report ≡ printed_lines report_line_text images ++ printed_lines report_line_text refusals =
    flat_map-append (λ said. report_line_text said ++ 10 ∷ []) images refusals in
    omega (
      arith,
      most,
      few,
      images_short 0 report.images.items parts.0,
      refusals_short report.refusals.items parts.1,
      ap (λ (text : List ℕ). length text) whole,
      length-append (printed_lines report_line_text images) (printed_lines report_line_text refusals),
    )

-- A text of at most 2048 bytes that doesn't fit is longer than the buffer.
pub longer : (text room : List ℕ) → length text ≤ 2048 → HasNoRoom text room → length room < length text
longer text room short (inl more) = more
longer text room short (inr wide) = absurd (omega (arith, short, wide))
