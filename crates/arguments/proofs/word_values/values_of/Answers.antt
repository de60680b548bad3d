use Rattle.std.proofs.Common.{ℕ, List, [], Bor, get_or}
use Rattle.std.proofs.lemmas.List.{get_or_default, take_all}
use Rattle.common.proofs.Mapped.{AllZip-at, AllZip-more}
use Rattle.arguments.proofs.word_values.values_of.Goals as goal

-- The word at a place.
abbrev word_at : List (Bor (List ℕ)) → ℕ → Bor (List ℕ)
word_at words place = get_or words place (record { ref_ptr = (0, 0); now = [] })

-- If one word has no value, the words have no values.
pub returns-in_default : goal.returns-in_default
returns-in_default g c = λ values each.
    let word = word_at c.args.words.now c.loop-word.word-index in
    let is = get_or_default c.args.words.now c.loop-word.word-index _ word c.loop-word-test.true in
    let at = AllZip-at (g.R.WordReader.says c.args.reader.now) (λ w. w.now) c.args.words.now values c.loop-word.word-index word
    c.loop-word-test.true is each in
    (rw c.in_default.is at c.in_ok-value.ensures) at.0 at.1

-- One more word has a value.
pub loop-word-preserved : goal.loop-word-preserved
loop-word-preserved g c =
    let word = word_at c.args.words.now c.loop-word.word-index in
    let is = get_or_default c.args.words.now c.loop-word.word-index _ word c.loop-word-test.true in
    let more = AllZip-more (g.R.WordReader.says c.args.reader.now) (λ w. w.now) c.args.words.now c.loop-word.values.items
    c.loop-word.word-index word c.in-Some.value c.loop-word-test.true is c.loop-word.invariant
    (rw c.in-Some.is at c.in_ok-value.ensures) in
    rw c.in_ok-push.ensures.items more

-- All words were read.
pub returns : goal.returns
returns g c = rw (take_all c.loop-word.word-index c.args.words.now c.loop-word-test.false) at c.loop-word.invariant
