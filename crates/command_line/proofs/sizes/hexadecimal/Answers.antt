use Rattle.std.proofs.Common.{◌∙◌, sym}
use Rattle.common.proofs.Numbers.{same_text_at_some}
use Rattle.command_line.proofs.SizesLaws.{digits_parsed, is_decoded, no_digits}
use Rattle.command_line.proofs.sizes.hexadecimal.Goals as goal

pub returns-then-not-are_hexadecimal : goal.returns-then-not-are_hexadecimal
returns-then-not-are_hexadecimal c =
    sym (no_digits c.args.digits.now (sym c.are_hexadecimal.ensures ∙ c.if-not-are_hexadecimal.true))

-- Hexadecimal digits are text.
pub returns-in_err-ok : goal.returns-in_err-ok
returns-in_err-ok c =
    absurd (is_decoded c.args.digits.now c.from_utf8.result
    (sym c.are_hexadecimal.ensures ∙ c.if-not-are_hexadecimal.false) c.from_utf8.ensures.cases c.in_err-ok.ensures.value)

pub returns : goal.returns
returns c =
    let same = same_text_at_some c.args.digits.now c.from_utf8.result c.in_ok-ok.field-0
    c.from_utf8.ensures.cases c.in_ok-ok.ensures.value in
    c.ok-2.ensures.value
    ∙ digits_parsed c.args.digits.now c.from_str_radix.result
    (sym c.are_hexadecimal.ensures ∙ c.if-not-are_hexadecimal.false) (rw same at c.from_str_radix.ensures.value)
