-- The printed text of a table or a report is a text of it.
use Rattle.common.proofs.Printed.{lines_of-printed}
use Rattle.reports.specs.declared.table.Table.{Table}
use Rattle.reports.specs.declared.report.Report.{Report}
use Rattle.reports.specs.TableText.{table_lines, table_line_text, table_text, FitsTable, FitsTableLine, IsTableLineText, IsTableText}
use Rattle.reports.specs.ReportText.{report_lines, report_line_text, report_text, FitsReport, FitsReportLine, IsReportLineText, IsReportText}
use Rattle.reports.proofs.LineLaws.{table_line_text-said, LacksByte-table_line, report_line_text-said, LacksByte-report_line}

-- A printed table is a text of the table.
pub printed_table_is_text : (table : Table) → FitsTable table → IsTableText (table_text table) table
printed_table_is_text table fits = record {
  some = fits.some;
  most = fits.most;
  few = fits.few;
  lines = lines_of-printed table_line_text IsTableLineText FitsTableLine table_line_text-said
      (λ said fit. LacksByte-table_line (table_line_text said) said (table_line_text-said said fit))
      (table_lines 0 table.images.items) fits.fields;
}

-- A printed report is a text of the report.
pub printed_report_is_text : (report : Report) → FitsReport report → IsReportText (report_text report) report
printed_report_is_text report fits = record {
  some = fits.some;
  most = fits.most;
  few = fits.few;
  lines = lines_of-printed report_line_text IsReportLineText FitsReportLine report_line_text-said
      (λ said fit. LacksByte-report_line (report_line_text said) said (report_line_text-said said fit))
      (report_lines report) fits.fields;
}
