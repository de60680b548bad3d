use Rattle.std.proofs.Common.{ℕ, List, [], Bor, get_or}
use Rattle.std.proofs.lemmas.List.{get_or_default, take_all}
use Rattle.inspecting.proofs.PlanAnswerLaws.{HasReadEach-next, ReadsEach-all}
use Rattle.inspecting.proofs.fleet.program.read_each.Goals as goal

-- The name at a place.
abbrev name_at : List (Bor (List ℕ)) → ℕ → Bor (List ℕ)
name_at names place = get_or names place (record { ref_ptr = (0, 0); now = [] })

-- One more source is read.
pub loop-name-preserved : goal.loop-name-preserved
loop-name-preserved g c =
    let names = c.args.names.now in
    let place = c.loop-name.name-index in
    let name = name_at names place in
    let is = get_or_default names place _ name c.loop-name-test.true in
    rw c.in-Ok.ensures.items (HasReadEach-next names place name c.loop-name.texts.items c.in_ok-text.text
    _ _ _ _ _ _ _ c.loop-name-test.true is c.loop-name.invariant c.named.ensures
    c.in_ok-text.ensures.bytes c.in_ok-text.ensures.others)

-- All sources were read.
pub returns : goal.returns
returns g c =
    ReadsEach-all _ _ _ _ _ _ (rw (take_all c.loop-name.name-index c.args.names.now c.loop-name-test.false) at c.loop-name.invariant)
