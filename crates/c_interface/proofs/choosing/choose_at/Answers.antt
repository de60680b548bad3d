use Rattle.std.proofs.Common.{◌≡◌, ◌++◌, true, false, drop, length, refl, sym, ◌∙◌, subst, rules}
use Rattle.reports.specs.ReportText.{report_text}
use Rattle.c_interface.specs.Choosing.{Chosen, Invalid, NoRoom, NoTable}
use Rattle.reports.proofs.ReportTextLaws.{FitsReport-from_text}
use Rattle.reports.proofs.RightFits.{right_report_has_text}
use Rattle.c_interface.proofs.ShortReports.{longer, report_short}
use Rattle.c_interface.proofs.choosing.choose_at.Goals as goal

pub returns-in-Err : goal.returns-in-Err
returns-in-Err c = NoTable (search rules) refl refl

pub returns-then-not-is_valid : goal.returns-then-not-is_valid
returns-then-not-is_valid c = Invalid c.parse_into.new.table c.in_default.ensures.spelled
    (λ valid. let is : false ≡ true = c.if-not-is_valid.ensures.1 valid in absurd cc) refl refl refl

pub returns-in-None : goal.returns-in-None
returns-in-None c =
    let report = c.choose_into.new.report in
    let short = report_short report (FitsReport-from_text (report_text report) report
    (right_report_has_text c.parse_into.new.table report c.in_default.ensures.fits c.choose_into.ensures.right)) in
    NoRoom c.parse_into.new.table report c.in_default.ensures.spelled c.choose_into.ensures.right
    c.choose_into.ensures.standard
    (longer (report_text report) c.args.buffer.now short c.in-None.ensures.0) short refl c.in-None.ensures.1 refl

pub returns-in-Some : goal.returns-in-Some
returns-in-Some c =
    let text = report_text c.choose_into.new.report in
    let long = c.from.ensures ∙ c.in-Some.ensures.0 in
    Chosen c.parse_into.new.table c.choose_into.new.report c.in_default.ensures.spelled
    c.choose_into.ensures.right c.choose_into.ensures.standard long
    (c.in-Some.ensures.1 ∙ subst (λ n. text ++ drop (length text) c.args.buffer.now ≡ text ++ drop n c.args.buffer.now)
    (sym long) refl) refl
