-- Laws of the lengths of texts in the result of a call.
use Rattle.std.proofs.Common.{◌≡◌, ◌∙◌, ℕ, List, refl, sym, subst, ap}
use Rattle.reports.specs.ReportText.{report_text}
use Rattle.reports.specs.TableText.{table_text}
use Rattle.machine.specs.declared.reply.Reply.{Reply}
use Rattle.machine.specs.declared.reply.Reply.TheVariants.{Done, Booted, Reverted, TrialAgain, Refused, Cut}
use Rattle.c_interface.specs.declared.call_result.CallResult.{CallResult}
use Rattle.c_interface.specs.Answers.{HasNoTexts, HasTexts}
use Rattle.c_interface.specs.Texts.{IsPut}
use Rattle.c_interface.specs.CallResult.{HasTextLengths, IsResultOf}

pub texts_of_result : (reply : Reply) (table_length report_length : ℕ) (old_rows rows old_lines lines : List ℕ) (call_result : CallResult)
    → HasTextLengths reply table_length report_length call_result
    → HasTexts table_length report_length old_rows rows old_lines lines reply
    → HasTexts call_result.table_length call_result.report_length old_rows rows old_lines lines reply
texts_of_result (Booted table report permanent) table_length report_length old_rows rows old_lines lines call_result lengths has = (
  subst (λ n. IsPut (table_text table) n old_rows rows) (sym lengths.0) has.0,
  subst (λ n. IsPut (report_text report) n old_lines lines) (sym lengths.1) has.1,
)
texts_of_result Done table_length report_length old_rows rows old_lines lines call_result lengths has = has
texts_of_result (Reverted mask) table_length report_length old_rows rows old_lines lines call_result lengths has = has
texts_of_result (TrialAgain set left) table_length report_length old_rows rows old_lines lines call_result lengths has = has
texts_of_result (Refused fault) table_length report_length old_rows rows old_lines lines call_result lengths has = has
texts_of_result Cut table_length report_length old_rows rows old_lines lines call_result lengths has = has

both_0 : {whole other : CallResult} → whole ≡ other → other.table_length ≡ 0 → other.report_length ≡ 0
    → (whole.table_length ≡ 0) × (whole.report_length ≡ 0)
both_0 same table report =
    (ap (λ (r : CallResult). r.table_length) same ∙ table, ap (λ (r : CallResult). r.report_length) same ∙ report)

-- The result of a call that reports no texts has no lengths of texts.
pub no_texts : (reply : Reply) (call_result : CallResult) → IsResultOf reply call_result → HasTextLengths reply 0 0 call_result
    → HasNoTexts call_result reply
no_texts (Booted table report permanent) call_result is lengths = lengths
no_texts Done call_result is lengths = both_0 is refl refl
no_texts (Reverted mask) call_result is lengths = both_0 is refl refl
no_texts (TrialAgain set left) call_result is lengths = both_0 is refl refl
no_texts (Refused fault) call_result is lengths = both_0 is refl refl
no_texts Cut call_result is lengths = both_0 is refl refl
