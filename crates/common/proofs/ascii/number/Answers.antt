use Rattle.std.proofs.Common.{refl, sym, ◌∙◌}
use Rattle.common.proofs.Numbers.{IfNone_number, number_of_no_text, padded_is_other}
use Rattle.common.proofs.ascii.number.Goals as goal

pub returns-then-begins_padded-clause-other : goal.returns-then-begins_padded-clause-other
returns-then-begins_padded-clause-other c = padded_is_other c.args.text.now (c.if-begins_padded.ensures.0 refl)

pub returns-in_err-ok-clause-value : goal.returns-in_err-ok-clause-value
returns-in_err-ok-clause-value c =
    let decodes = c.from_utf8.ensures.cases in
    let unread = number_of_no_text c.args.text.now c.from_utf8.result decodes c.in_err-ok.ensures.value in
    c.from_residual.ensures ∙ sym unread

pub returns-in_err-ok-clause-other : goal.returns-in_err-ok-clause-other
returns-in_err-ok-clause-other c =
    let decodes = c.from_utf8.ensures.cases in
    let unread = number_of_no_text c.args.text.now c.from_utf8.result decodes c.in_err-ok.ensures.value in
    IfNone_number c.args.text.now _ (c.from_residual.ensures ∙ sym unread)
