use Rattle.std.proofs.Common.{refl}
use Rattle.std.proofs.lemmas.Bool.{false≢true}
use Rattle.std.specs.Str.Parse.{ParsesUnsigned}
use Rattle.common.specs.Ascii.{IsPadded}
use Rattle.common.proofs.Numbers.{same_text_at_some}
use Rattle.device_texts.proofs.WideNumbers.{padded_is_other, parsed_is_printed, undecoded_is_other, unparsed_is_other}
use Rattle.device_texts.proofs.words.number_usize.Goals as goal

pub returns-then-begins_padded-clause-other : goal.returns-then-begins_padded-clause-other
returns-then-begins_padded-clause-other c =
    padded_is_other c.args.text.now (c.if-begins_padded.ensures.0 refl)

pub returns-in_err-ok-clause-other : goal.returns-in_err-ok-clause-other
returns-in_err-ok-clause-other c =
    rw c.from_residual.ensures
    (undecoded_is_other c.args.text.now c.from_utf8.result c.from_utf8.ensures.cases c.in_err-ok.ensures.value)

-- The text isn't padded, and it was parsed.
parsed : (c : goal.After-ok-2)
    → (IsPadded c.args.text.now → ⊥) × ParsesUnsigned 64 10 c.args.text.now c.parse.result
parsed c =
    let same =
    same_text_at_some c.args.text.now c.from_utf8.result c.in_ok-ok.field-0 c.from_utf8.ensures.cases
    c.in_ok-ok.ensures.value in
    (λ padded. false≢true (c.if-begins_padded.ensures.1 padded), (rw same at c.parse.ensures.value).0)

pub returns-clause-spelled : goal.returns-clause-spelled
returns-clause-spelled c =
    let (plain, read) = parsed c in
    rw c.ok-2.ensures.value (parsed_is_printed c.args.text.now c.parse.result plain read)

pub returns-clause-other : goal.returns-clause-other
returns-clause-other c =
    let (plain, read) = parsed c in
    rw c.ok-2.ensures.value (unparsed_is_other c.args.text.now c.parse.result plain read)
