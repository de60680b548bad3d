use Rattle.std.proofs.lemmas.Bool.{false≢true}
use Rattle.inspecting.proofs.choose.choice_in.Goals as goal

-- The running images of the table don't fit each other.
pub returns-then-not-is_valid : goal.returns-then-not-is_valid
returns-then-not-is_valid c =
    record {
      spelled = c.in-Ok.ensures.spelled;
      unfit = λ valid. false≢true (c.if-not-is_valid.ensures.1 valid);
    }

pub choose-report-requires : goal.choose-report-requires
choose-report-requires c = c.is_valid.ensures.0 c.if-not-is_valid.false

-- The report is right, and has a text.
pub returns : goal.returns
returns c =
    let right = c.choose-report.ensures.right in record {
      spelled = c.in-Ok.ensures.spelled;
      valid = c.is_valid.ensures.0 c.if-not-is_valid.false;
      right = right;
      standard = c.choose-report.ensures.standard;
      text = c.right_reports_have_a_text.ensures _ _ c.in-Ok.ensures.fits right;
    }
