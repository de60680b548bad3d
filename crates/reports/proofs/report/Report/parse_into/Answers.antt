use Rattle.std.proofs.Common.{◌≡◌, length, refl, sym, ap, inl, arith}
use Rattle.std.proofs.lemmas.Bool.{eqb-true, eqb-false}
use Rattle.std.proofs.lemmas.List.{nil_from_length}
use Rattle.common.specs.Lines.{lines_of}
use Rattle.reports.proofs.ReportTextLaws.{from_empty_report, FitsReport-from_text, IsReportText-read, read_lines-report, IsFirstBadLine-report, lines_of-no_report}
use Rattle.reports.proofs.report.Report.parse_into.Goals as goal

pub returns-in-Err-clause-only : goal.returns-in-Err-clause-only
returns-in-Err-clause-only c = λ report spelled.
    let read = read_lines-report c.args.text.now report spelled in
    let failed = from_empty_report _ _
    (lines_of c.args.text.now) c.clear.ensures c.clear-2.ensures c.in-Err.ensures in
    cc

pub returns-in-Err-clause-line : goal.returns-in-Err-clause-line
returns-in-Err-clause-line c =
    IsFirstBadLine-report c.args.text.now c.in-Err.line
    (from_empty_report _ _
    (lines_of c.args.text.now) c.clear.ensures c.clear-2.ensures c.in-Err.ensures)

pub returns-then-is_empty-clause-only : goal.returns-then-is_empty-clause-only
returns-then-is_empty-clause-only c = λ report spelled.
    let read = read_lines-report c.args.text.now report spelled in
    let found = from_empty_report _ _
    (lines_of c.args.text.now) c.clear.ensures c.clear-2.ensures c.in_default.ensures in
    let none = eqb-true _ _ (sym c.if-is_empty.ensures) in
    let same : c.read_lines.new.state ≡ report = cc in
    absurd (omega (arith, spelled.some, none, ap (λ (t : _). length t.images.items) same))

pub returns-then-is_empty-clause-line : goal.returns-then-is_empty-clause-line
returns-then-is_empty-clause-line c =
    let found = from_empty_report _ _
    (lines_of c.args.text.now) c.clear.ensures c.clear-2.ensures c.in_default.ensures in
    let none = nil_from_length c.read_lines.new.state.images.items (eqb-true _ _ (sym c.if-is_empty.ensures)) in
    inl (lines_of-no_report c.args.text.now c.read_lines.new.state found none, refl)

pub returns-clause-spelled : goal.returns-clause-spelled
returns-clause-spelled c =
    let found = from_empty_report _ _
    (lines_of c.args.text.now) c.clear.ensures c.clear-2.ensures c.in_default.ensures in
    let some = eqb-false _ _ (sym c.if-is_empty.ensures) in
    IsReportText-read c.args.text.now c.read_lines.new.state found (omega (arith, some))

pub returns-clause-fits : goal.returns-clause-fits
returns-clause-fits c = FitsReport-from_text c.args.text.now c.read_lines.new.state (returns-clause-spelled c)

pub returns-clause-only : goal.returns-clause-only
returns-clause-only c = λ report spelled.
    let read = read_lines-report c.args.text.now report spelled in
    let found = from_empty_report _ _
    (lines_of c.args.text.now) c.clear.ensures c.clear-2.ensures c.in_default.ensures in
    let same : c.read_lines.new.state ≡ report = cc in
    (refl, same)
