-- The texts of a report.
use Rattle.std.specs.Prelude.{◌≡◌, ℕ, ◌+◌, ◌^◌, ◌<◌, ◌≤◌, List, [], ◌∷◌, ◌++◌, length, map, codes, decimal, if◌then◌else◌}
use Rattle.std.specs.List.{AllByRecursion, AllZip}
use Rattle.common.specs.Limits.{MOST_IMAGES}
use Rattle.common.specs.Lines.{◌␣◌, lines_of, printed_lines}
use Rattle.version_order.specs.VersionText.{FitsFields, version_text}
use Rattle.common.specs.Limits.{MOST_REFUSALS}
use Rattle.reports.specs.declared.report.Refusal.{Refusal}
use Rattle.reports.specs.declared.report.Reason.{Reason}
use Rattle.reports.specs.declared.report.Reason.TheVariants.{Damaged, Older, Counter, NoSuchImage, Needs, NeedsOne}
use Rattle.reports.specs.declared.report.ReportedImage.{ReportedImage}
use Rattle.reports.specs.declared.report.Report.{Report}
use Rattle.reports.specs.declared.report_line.ReportLine.{ReportLine}
use Rattle.reports.specs.declared.report_line.ReportLine.TheVariants as line
use Rattle.reports.specs.DependencyText.{needs_one_text, needs_text, FitsDependency, FitsGroup, IsNeedsOneText, IsNeedsText, IsVersionLine}

-- The printed text of a reason.
abbrev pub reason_text : Reason → List ℕ
reason_text Damaged = codes "damaged"
reason_text Older = codes "older"
reason_text Counter = codes "counter"
reason_text (NoSuchImage j) = codes "no-such-image" ␣ decimal j
reason_text (Needs j minimum) = needs_text (record { image = j; minimum = minimum })
reason_text (NeedsOne group) = needs_one_text group

-- The printed text of a line.
abbrev pub report_line_text : ReportLine → List ℕ
report_line_text (line.Run number version) = codes "run" ␣ decimal number ␣ version_text version
report_line_text (line.Take number version) = codes "take" ␣ decimal number ␣ version_text version
report_line_text (line.Refuse refusal) =
    codes "refuse" ␣ decimal refusal.image ␣ reason_text refusal.reason

-- A text of a reason: its numbers fit their fields, and a version has any of its texts.
abbrev pub IsReasonText : List ℕ → Reason → Type 0
IsReasonText text Damaged = text ≡ codes "damaged"
IsReasonText text Older = text ≡ codes "older"
IsReasonText text Counter = text ≡ codes "counter"
IsReasonText text (NoSuchImage j) = (j < 2 ^ 8) × (text ≡ codes "no-such-image" ␣ decimal j)
IsReasonText text (Needs j minimum) = IsNeedsText text (record { image = j; minimum = minimum })
IsReasonText text (NeedsOne group) = IsNeedsOneText text group

-- A text of a line, without its line feed.
abbrev pub IsReportLineText : List ℕ → ReportLine → Type 0
IsReportLineText text (line.Run number version) =
    IsVersionLine text (codes "run") number version
IsReportLineText text (line.Take number version) =
    IsVersionLine text (codes "take") number version
IsReportLineText text (line.Refuse refusal) =
    (refusal.image < 2 ^ 8)
    × (reason : List ℕ) × IsReasonText reason refusal.reason
    × (text ≡ codes "refuse" ␣ decimal refusal.image ␣ reason)

-- The line of image number n.
abbrev pub reported_line : ℕ → ReportedImage → ReportLine
reported_line n image =
    if image.is_taken then line.Take n image.version else line.Run n image.version

-- The lines of the images from number n on.
abbrev pub reported_lines : ℕ → List ReportedImage → List ReportLine
reported_lines n [] = []
reported_lines n (image ∷ images) = reported_line n image ∷ reported_lines (n + 1) images

-- The lines of refusals.
abbrev pub refuse_lines : List Refusal → List ReportLine
refuse_lines refusals = map (λ refusal. line.Refuse refusal) refusals

-- The lines of a report: its images in order, then its refusals in order.
abbrev pub report_lines : Report → List ReportLine
report_lines report =
    reported_lines 0 report.images.items ++ refuse_lines report.refusals.items

-- A text of a report: there are one to eight images and at most eight refusals, and the lines of
-- the text are those of the report in order.
pub record IsReportText (bytes : List ℕ) (report : Report) : Type 0 where
  pub some : 1 ≤ length report.images.items
  pub most : length report.images.items ≤ MOST_IMAGES
  pub few : length report.refusals.items ≤ MOST_REFUSALS
  pub lines : AllZip IsReportLineText (lines_of bytes) (report_lines report)

-- The printed text of a report.
abbrev pub report_text : Report → List ℕ
report_text report = printed_lines report_line_text (report_lines report)

-- The bytes are a text of some report.
abbrev pub IsSomeReport : List ℕ → Type 0
IsSomeReport bytes = (report : Report) × IsReportText bytes report

-- The numbers of a reason and of a line fit their fields.
abbrev pub FitsReason : Reason → Type 0
FitsReason Damaged = Unit {0}
FitsReason Older = Unit {0}
FitsReason Counter = Unit {0}
FitsReason (NoSuchImage j) = j < 2 ^ 8
FitsReason (Needs j minimum) = FitsDependency (record { image = j; minimum = minimum })
FitsReason (NeedsOne group) = FitsGroup group

abbrev pub FitsReportLine : ReportLine → Type 0
FitsReportLine (line.Run number version) = (number < 2 ^ 8) × FitsFields version
FitsReportLine (line.Take number version) = (number < 2 ^ 8) × FitsFields version
FitsReportLine (line.Refuse refusal) = (refusal.image < 2 ^ 8) × FitsReason refusal.reason

-- A report that has a text: it has one to eight images and at most eight refusals, and its numbers
-- fit their fields, as those of a report in memory do.
pub record FitsReport (report : Report) : Type 0 where
  pub some : 1 ≤ length report.images.items
  pub most : length report.images.items ≤ MOST_IMAGES
  pub few : length report.refusals.items ≤ MOST_REFUSALS
  pub fields : AllByRecursion FitsReportLine (report_lines report)
