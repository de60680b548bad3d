-- Reading a report is exact: a report that is read has this text, any text of a report is read, and
-- an error names the first bad line.
use Rattle.std.proofs.Common.{◌≡◌, ℕ, ◌≤◌, false, List, [], ◌∷◌, ◌++◌, length, Some, Result, Ok, Err, refl, ap, subst, ◌∙◌, inl, arith, lit<}
use Rattle.std.specs.List.{AllZip}
use Rattle.std.proofs.lemmas.List.{append-nil}
use Rattle.version_order.specs.VersionText.{version_text}
use Rattle.reports.specs.declared.report.Report.{Report}
use Rattle.reports.specs.declared.report_line.ReportLine.{ReportLine}
use Rattle.reports.specs.declared.report_line.ReportLine.TheVariants as line
use Rattle.reports.specs.LineReading.{report_line_of}
use Rattle.common.specs.Lines.{lines_of, text_of_lines, Begins, IsFirstBadLine}
use Rattle.common.specs.Reading.{read_lines}
use Rattle.reports.specs.ReportText.{report_lines, report_line_text, FitsReport, FitsReportLine, IsReportLineText, IsReportText, IsSomeReport}
use Rattle.reports.specs.ReportReading.{empty_report, with_report_line, with_text_of_report}
use Rattle.reports.proofs.LineLaws.{report_line_of-text, report_line_of-spelled, FitsReportLine-from_text, LacksByte-report_line}
use Rattle.common.proofs.Lists.{AllByRecursion-from_AllZip}
use Rattle.common.proofs.LinesLaws.{AreLines, lines_of-text_of_lines}
use Rattle.common.proofs.ReadingLaws.{run, Spells, run-with_text, said_by_run, read_lines-ok, read_lines-run, IsFirstBadLine-stops}
use Rattle.reports.proofs.ReportLaws.{report_lines-grow, IsShort, IsShort-run, run-report_lines, has_image_after}

-- Reading from no line on, if the initial state has none.
pub from_empty_report : (start : Report) (total : Result Report ℕ) (texts : List (List ℕ)) → start.images.items ≡ []
    → start.refusals.items ≡ [] → read_lines with_text_of_report start 1 texts ≡ total
    → read_lines with_text_of_report empty_report 1 texts ≡ total
from_empty_report start total texts no_images no_refusals read =
    subst (λ (t : Report). read_lines with_text_of_report t 1 texts ≡ total)
    (ap (λ items. record { images = record { items = items }; refusals = start.refusals }) no_images
    ∙ ap (λ items. record {
      images = record { items = [] };
      refusals =
          record { items = items };
    }) no_refusals) read

-- Lines of text are read as lines of a report.
spells : Spells report_line_of with_report_line IsReportLineText report_lines
spells = record { again = report_line_of-text; spelled = report_line_of-spelled; grows = report_lines-grow }

-- Texts of the lines of a report give the report.
run-text : (bytes : List ℕ) (report : Report) → IsReportText bytes report
    → run with_text_of_report empty_report (lines_of bytes) ≡ Some report
run-text bytes report is =
    run-with_text report_line_of with_report_line IsReportLineText report_lines spells empty_report (lines_of bytes)
    (report_lines report) is.lines ∙ run-report_lines report is.some (record {
      images = is.most;
      refusals =
          is.few;
    })

-- The lines are texts of the report that was read from them.
said_lines : (texts : List (List ℕ)) (report : Report) → run with_text_of_report empty_report texts ≡ Some report
    → AllZip IsReportLineText texts (report_lines report) × IsShort report
said_lines texts report read =
    let said = said_by_run report_line_of with_report_line IsReportLineText report_lines spells empty_report report texts read in (
      rw said.1 said.2,
      IsShort-run report_line_of empty_report report texts read
          (record { images = omega arith; refusals = omega arith }),
    )

-- A report that is read and has an image has this text.
pub IsReportText-read : (bytes : List ℕ) (report : Report)
    → read_lines with_text_of_report empty_report 1 (lines_of bytes) ≡ Ok report → 1 ≤ length report.images.items
    → IsReportText bytes report
IsReportText-read bytes report read some =
    let said = said_lines (lines_of bytes) report
    (read_lines-ok with_text_of_report empty_report report 1 (lines_of bytes) read) in
    record { some = some; most = said.1.images; few = said.1.refusals; lines = said.0 }

-- A report that has a text fits its fields.
pub FitsReport-from_text : (bytes : List ℕ) (report : Report) → IsReportText bytes report → FitsReport report
FitsReport-from_text bytes report is = record {
  some = is.some;
  most = is.most;
  few = is.few;
  fields = AllByRecursion-from_AllZip IsReportLineText FitsReportLine FitsReportLine-from_text (lines_of bytes)
      (report_lines report) is.lines;
}

-- A text of a report is read.
pub read_lines-report : (bytes : List ℕ) (report : Report) → IsReportText bytes report
    → read_lines with_text_of_report empty_report 1 (lines_of bytes) ≡ Ok report
read_lines-report bytes report spelled =
    read_lines-run with_text_of_report empty_report report 1 (lines_of bytes) (run-text bytes report spelled)

-- The smallest report.
abbrev first_line : ReportLine
first_line = line.Run 0 (record { major = 0; minor = 0; revision = 0; build = 0 })

abbrev first_report : Report
first_report = record {
  images = record {
    items =
        record {
          is_taken = false;
          version = record {
            major = 0;
            minor = 0;
            revision = 0;
            build =
                0;
          };
        } ∷ [];
  };
  refusals = record { items = [] };
}

says_first : IsReportLineText (report_line_text first_line) first_line
says_first = (
  lit< tt,
  version_text (record { major = 0; minor = 0; revision = 0; build = 0 }),
  (record { major = lit< tt; minor = lit< tt; revision = lit< tt; build = lit< tt }, inl refl),
  refl,
)

some_report : IsSomeReport (text_of_lines (report_line_text first_line ∷ []) ++ [])
some_report = (
  first_report,
  record {
    some = omega arith;
    most = omega arith;
    few = omega arith;
    lines = rw (lines_of-text_of_lines (report_line_text first_line ∷ []) []
        (LacksByte-report_line (report_line_text first_line) first_line says_first, tt)) (says_first, tt);
  },
)

-- Lines that were read are a prefix of a report's text.
goes_on : (texts : List (List ℕ)) (report : Report) → AreLines texts
    → run with_text_of_report empty_report texts ≡ Some report → Begins IsSomeReport texts
goes_on [] report lack read = (text_of_lines (report_line_text first_line ∷ []) ++ [], some_report)
goes_on (text ∷ texts) report lack read =
    let said = said_lines (text ∷ texts) report read in
    let joined = lines_of-text_of_lines (text ∷ texts) [] lack in (
      [],
      (
        report,
        record {
          some = has_image_after report_line_of empty_report report (text ∷ texts) read (inl (omega arith));
          most = said.1.images;
          few = said.1.refusals;
          lines = rw (joined, append-nil (text ∷ texts)) said.0;
        },
      ),
    )

-- The line at which reading stops is the first with which no report continues.
pub IsFirstBadLine-report : (bytes : List ℕ) (n : ℕ)
    → read_lines with_text_of_report empty_report 1 (lines_of bytes) ≡ Err n → IsFirstBadLine IsSomeReport bytes n
IsFirstBadLine-report bytes n failed =
    IsFirstBadLine-stops IsSomeReport with_text_of_report empty_report
    (λ text is. (is.0, run-text text is.0 is.1)) goes_on bytes n failed

-- If no image was read, there are no lines.
pub lines_of-no_report : (bytes : List ℕ) (report : Report)
    → read_lines with_text_of_report empty_report 1 (lines_of bytes) ≡ Ok report → report.images.items ≡ []
    → lines_of bytes ≡ []
lines_of-no_report bytes report read none =
    no_lines (lines_of bytes) (read_lines-ok with_text_of_report empty_report report 1 (lines_of bytes) read) where
      no_lines : (texts : List (List ℕ)) → run with_text_of_report empty_report texts ≡ Some report → texts ≡ []
      no_lines [] done = refl
      no_lines (text ∷ texts) done =
          let some = has_image_after report_line_of empty_report report (text ∷ texts) done (inl (omega arith)) in
          absurd (omega (arith, some, ap length none))
