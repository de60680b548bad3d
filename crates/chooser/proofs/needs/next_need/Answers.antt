use Rattle.std.proofs.Common.{◌≡◌, ℕ, false, Option, None, sym, subst, ◌∙◌}
use Rattle.std.specs.Prelude.{IfNone}
use Rattle.reports.specs.declared.report.Refusal.{Refusal}
use Rattle.reports.specs.Reasons.{is_refused}
use Rattle.reports.specs.StandardOrder.{needs_reason}
use Rattle.chooser.proofs.Marking.{none-left, lowest-reason, lowest-next}
use Rattle.chooser.proofs.needs.next_need.Goals as goal

pub returns-in_err-number-clause-none_left : goal.returns-in_err-number-clause-none_left
returns-in_err-number-clause-none_left c =
    let table = c.args.table.now in
    let before = c.args.before.now in
    subst (λ (r : Option Refusal). IfNone r
    ((i : ℕ) → is_refused before i ≡ false → needs_reason table before i ≡ None)) (sym c.from_residual.ensures)
    (none-left table before c.args.marks.now c.requires (sym c.lowest_marked.ensures ∙ c.in_err-number.was))

pub returns-in_err-reason-clause-none_left : goal.returns-in_err-reason-clause-none_left
returns-in_err-reason-clause-none_left c =
    absurd (lowest-reason c.args.table.now c.args.before.now c.args.marks.now c.requires c.in_ok-number.field-0
    (sym c.lowest_marked.ensures ∙ c.in_ok-number.was) (sym c.needs_reason.ensures ∙ c.in_err-reason.was))

pub returns-clause-next : goal.returns-clause-next
returns-clause-next c =
    lowest-next c.args.table.now c.args.before.now c.args.marks.now c.requires c.in_ok-number.field-0
    (sym c.lowest_marked.ensures ∙ c.in_ok-number.was) c.in_ok-reason.reason
    (sym c.needs_reason.ensures ∙ c.in_ok-reason.was)
