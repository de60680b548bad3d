use Rattle.std.proofs.Common.{◌≡◌, ◌++◌, ap, length, rules, sym, ◌∙◌}
use Rattle.std.specs.Prelude.{option_map}
use Rattle.arguments.proofs.NeedLaws.{rest-done, rest-more, rest-odd, rest-wrong}
use Rattle.arguments.proofs.image_words.needs_of.Goals as goal

-- Two words name no dependency.
pub returns-in_default-need_of : goal.returns-in_default-need_of
returns-in_default-need_of c =
    let wrong = sym (rw c.in_default-need_of.is at c.need_of.ensures) in
    ap (option_map (λ later. c.loop-rest.needs.items ++ later)) (sym (rest-wrong c.loop-rest.rest.now _ c.in-len2-up.len_at_least wrong))
    ∙ c.loop-rest.invariant

-- Two more words name a dependency.
pub loop-rest-preserved : goal.loop-rest-preserved
loop-rest-preserved c =
    let says = sym (rw c.in-Some.is at c.need_of.ensures) in
    let more = rest-more c.loop-rest.rest.now _ c.loop-rest.needs.items c.in-Some.need c.in-len2-up.len_at_least says in
    rw c.in_ok-push.ensures.items (more ∙ c.loop-rest.invariant)

-- No word remains.
pub returns-then-is_empty : goal.returns-then-is_empty
returns-then-is_empty c =
    let done : length c.loop-rest.rest.now ≡ 0 = search rules in
    sym (rest-done c.loop-rest.rest.now c.loop-rest.needs.items done) ∙ c.loop-rest.invariant

-- One word remains.
pub returns-else-is_empty : goal.returns-else-is_empty
returns-else-is_empty c =
    let some : length c.loop-rest.rest.now ≡ 0 → ⊥ = search rules in
    ap (option_map (λ later. c.loop-rest.needs.items ++ later)) (sym (rest-odd c.loop-rest.rest.now c.in_default.len_below some))
    ∙ c.loop-rest.invariant
