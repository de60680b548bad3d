-- Lemmas by which the key of a row is read.
use Rattle.std.proofs.Common.{◌≡◌, ℕ, zero, suc, ◌-◌, ◌<◌, ◌≤◌, Bool, true, false, List, [], ◌∷◌, ◌++◌, length, length-append, Option, Some, None, ap, arith, refl, sym, subst, ◌∙◌}
use Rattle.std.specs.List.{slice_get}
use Rattle.std.specs.Prelude.{if◌then◌else◌, option_and_then}
use Rattle.std.proofs.lemmas.Option.{none-some, same_Some}
use Rattle.common.specs.Ascii.{cut}
use Rattle.common.specs.declared.limits.TheConstants.{MOST_IMAGES}
use Rattle.reports.specs.LineReading.{alternative_of, more_alternatives}
use Rattle.reports.specs.ReportReading.{with_report_line}
use Rattle.reports.specs.declared.report.Report.{Report}
use Rattle.reports.specs.declared.report_line.ReportLine.{ReportLine}
use Rattle.reports.specs.declared.report_line.ReportLine.TheVariants as line
use Rattle.version_order.specs.declared.dependency.Dependency.{Dependency}
use Rattle.inspecting.specs.RowKey.{refusal_said, taken_from}

-- No image is read if no version follows the number.
more-no_version : (room : ℕ) (before : List Dependency) (fields : List ℕ) → (cut 32 fields).1 ≡ None
    → more_alternatives room before (Some fields) ≡ None
unfolding more_alternatives
more-no_version zero before fields missing = refl
more-no_version (suc room) before fields missing = rw missing refl

-- No image is read from two words that are none.
more-wrong : (room : ℕ) (before : List Dependency) (fields rest : List ℕ) → (cut 32 fields).1 ≡ Some rest
    → alternative_of (cut 32 fields).0 (cut 32 rest).0 ≡ None → more_alternatives room before (Some fields) ≡ None
unfolding more_alternatives
more-wrong zero before fields rest is_rest wrong = refl
more-wrong (suc room) before fields rest is_rest wrong = rw (is_rest, wrong) refl

-- Then no set is read.
pub taken-no_version : (before : List Dependency) (fields : List ℕ) → None ≡ (cut 32 fields).1
    → None ≡ taken_from before (Some fields)
taken-no_version before fields missing = sym (more-no_version (MOST_IMAGES - length before) before fields (sym missing))

pub taken-wrong : (before : List Dependency) (fields rest : List ℕ) → Some rest ≡ (cut 32 fields).1
    → None ≡ alternative_of (cut 32 fields).0 (cut 32 rest).0 → None ≡ taken_from before (Some fields)
taken-wrong before fields rest is_rest wrong =
    sym (more-wrong (MOST_IMAGES - length before) before fields rest (sym is_rest) (sym wrong))

-- No set is read if an image would be one too many.
pub taken-full : (before : List Dependency) (fields : List ℕ) → MOST_IMAGES ≤ length before
    → None ≡ taken_from before (Some fields)
unfolding more_alternatives
taken-full before fields full = let none : MOST_IMAGES - length before ≡ 0 = omega arith in rw none refl

-- One more image is read.
pub taken-step : (before : List Dependency) (fields rest : List ℕ) (image : Dependency) → length before < MOST_IMAGES
    → Some rest ≡ (cut 32 fields).1 → Some image ≡ alternative_of (cut 32 fields).0 (cut 32 rest).0
    → taken_from before (Some fields) ≡ taken_from (before ++ image ∷ []) (cut 32 rest).1
unfolding more_alternatives
taken-step before fields rest image room is_rest is_image =
    let more : MOST_IMAGES - length before ≡ suc (MOST_IMAGES - length (before ++ image ∷ [])) =
    omega (arith, length-append before (image ∷ [])) in
    rw (more, ← is_rest, ← is_image) refl

-- A value that is there under a condition.
placed : {A : Type 0} (b : Bool) (one new : A) → (if b then Some one else None) ≡ Some new → one ≡ new
placed true one new is = same_Some one new is
placed false one new is = absurd (none-some new is)

-- The last refusal of a report of none.
no_last : (report new : Report) → report.refusals.items ≡ [] → report.refusals.items ≡ new.refusals.items
    → None ≡ slice_get new.refusals.items (length new.refusals.items - 1)
no_last report new none same = rw (← same, none) refl

-- A report with an image and no refusal takes a line. Then its last refusal is that of the line.
pub refusal-taken : (report new : Report) (said : Option ReportLine) → length report.images.items ≡ 1
    → report.refusals.items ≡ [] → option_and_then (with_report_line report) said ≡ Some new
    → slice_get new.refusals.items (length new.refusals.items - 1) ≡ option_and_then refusal_said said
unfolding with_report_line
refusal-taken report new None one none is = absurd (none-some new is)
refusal-taken report new (Some (line.Run number version)) one none is =
    sym (no_last report new none (ap (λ (r : Report). r.refusals.items) (placed _ _ new is)))
refusal-taken report new (Some (line.Take number version)) one none is =
    sym (no_last report new none (ap (λ (r : Report). r.refusals.items) (placed _ _ new is)))
refusal-taken report new (Some (line.Refuse refusal)) one none is =
    let last : report.refusals.items ++ refusal ∷ [] ≡ new.refusals.items =
    ap (λ (r : Report). r.refusals.items) (placed _ _ new is) in
    rw (← last, none) refl

-- It takes no line but that of a refusal, or of an image.
pub refusal-not_taken : (report : Report) (said : Option ReportLine) → length report.images.items ≡ 1
    → report.refusals.items ≡ [] → option_and_then (with_report_line report) said ≡ None
    → None ≡ option_and_then refusal_said said
unfolding with_report_line
refusal-not_taken report None one none is = refl
refusal-not_taken report (Some (line.Run number version)) one none is = refl
refusal-not_taken report (Some (line.Take number version)) one none is = refl
refusal-not_taken report (Some (line.Refuse refusal)) one none is = absurd (none-some _ (sym (rw (one, none) at is)))
