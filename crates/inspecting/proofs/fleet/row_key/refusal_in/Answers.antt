use Rattle.std.proofs.Common.{◌≡◌, ◌∙◌, Bool, true, false, Result, Ok, Err, OnOk, ap, is_ok, length, refl, rules}
use Rattle.std.specs.Prelude.{MatchBool}
use Rattle.reports.specs.LineReading.{report_line_of}
use Rattle.reports.specs.declared.report.Report.{Report}
use Rattle.inspecting.proofs.RowKeyLaws.{refusal-not_taken, refusal-taken}
use Rattle.inspecting.specs.RowKey.{refusal_of}
use Rattle.inspecting.proofs.fleet.row_key.refusal_in.Goals as goal

-- What holds after a push that succeeded.
pushed : {T E P : Type 0} (result : Result T E) → true ≡ is_ok result → OnOk result P → P
pushed (Ok x) went fact = fact
pushed (Err e) went fact = cc

when_true : (A B : Type 0) (b : Bool) → b ≡ true → MatchBool b A B → A
when_true A B true is fact = fact
when_true A B false is fact = cc

when_false : (A B : Type 0) (b : Bool) → b ≡ false → MatchBool b A B → B
when_false A B true is fact = cc
when_false A B false is fact = fact

-- The line isn't taken.
pub returns-then-not-take_line : goal.returns-then-not-take_line
unfolding refusal_of
returns-then-not-take_line c =
    let report : Report = record { images = c.try_push.new.self; refusals = c.default-report.result.refusals } in
    let one : length report.images.items ≡ 1 =
    ap length (pushed c.try_push.result c.in_ok-ok.ensures.variant c.try_push.ensures.ok) ∙ rw c.default-report.ensures.0 refl in
    refusal-not_taken report (report_line_of c.args.line.now) one c.default-report.ensures.1
    (when_false _ _ c.take_line.result (search rules) c.take_line.ensures)

-- The last refusal is that of the line.
pub returns : goal.returns
unfolding refusal_of
returns c =
    let report : Report = record { images = c.try_push.new.self; refusals = c.default-report.result.refusals } in
    let one : length report.images.items ≡ 1 =
    ap length (pushed c.try_push.result c.in_ok-ok.ensures.variant c.try_push.ensures.ok) ∙ rw c.default-report.ensures.0 refl in
    c.pop.ensures.value ∙ refusal-taken report c.take_line.new.self (report_line_of c.args.line.now) one c.default-report.ensures.1
    (when_true _ _ c.take_line.result (search rules) c.take_line.ensures)
