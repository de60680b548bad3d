-- Reading a report line by line: how one more line changes the report of the lines so far. The
-- reader follows these steps. `ReportText` defines what they mean.
use Rattle.std.specs.Prelude.{ℕ, ◌==◌, ◌&&◌, true, false, [], ◌∷◌, ◌++◌, List, length, Option, Some, None, nat_lt, if◌then◌else◌}
use Rattle.common.specs.Limits.{MOST_IMAGES}
use Rattle.common.specs.Reading.{with_text}
use Rattle.common.specs.Limits.{MOST_REFUSALS}
use Rattle.reports.specs.declared.report.Refusal.{Refusal}
use Rattle.reports.specs.declared.report.ReportedImage.{ReportedImage}
use Rattle.reports.specs.declared.report.Report.{Report}
use Rattle.reports.specs.declared.report_line.ReportLine.{ReportLine}
use Rattle.reports.specs.declared.report_line.ReportLine.TheVariants as line
use Rattle.reports.specs.LineReading.{report_line_of}

-- The report before the first line.
abbrev pub empty_report : Report
empty_report = record { images = record { items = [] }; refusals = record { items = [] } }

-- A report with one more image. There are at most eight. The number of the new one must be the
-- count of those before it, and there must be no refusal yet.
abbrev pub with_reported_image : Report → ℕ → ReportedImage → Option Report
with_reported_image report number image =
    if (length report.refusals.items == 0)
    && ((number == length report.images.items) && nat_lt (length report.images.items) MOST_IMAGES)
    then Some (record report { images = record { items = report.images.items ++ image ∷ [] } })
    else None

-- A report with one more refusal. There are at most eight, and the report must have an image.
abbrev pub with_refusal : Report → Refusal → Option Report
with_refusal report refusal =
    if nat_lt 0 (length report.images.items)
    && nat_lt (length report.refusals.items) MOST_REFUSALS
    then Some (record report {
      refusals = record { items = report.refusals.items ++ refusal ∷ [] };
    }) else None

-- A report with the meaning of one more line.
unfoldable pub with_report_line : Report → ReportLine → Option Report
with_report_line report (line.Run number version) =
    with_reported_image report number (record { is_taken = false; version = version })
with_report_line report (line.Take number version) =
    with_reported_image report number (record { is_taken = true; version = version })
with_report_line report (line.Refuse refusal) = with_refusal report refusal

-- A report with the meaning of one more line of text.
abbrev pub with_text_of_report : Report → List ℕ → Option Report
with_text_of_report = with_text report_line_of with_report_line
