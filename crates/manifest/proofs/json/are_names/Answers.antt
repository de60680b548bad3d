use Rattle.std.proofs.Common.{◌≡◌, map, get_or, string_bytes, sym, ap, ◌∙◌}
use Rattle.std.proofs.lemmas.Bool.{false≢true}
use Rattle.std.proofs.lemmas.Slice.Eq.{bytes_eq-Decides}
use Rattle.manifest.proofs.Names.{left_more, left_none, left_other}
use Rattle.manifest.proofs.Values.{names_of-members_view}
use Rattle.manifest.proofs.json.are_names.Goals as goal

pub loop-name-init : goal.loop-name-init
loop-name-init c =
    let own = names_of-members_view c.args.members.now.entries ∙ ap (map string_bytes) (sym c.keys-own.ensures.rest) in
    (tt, tt, (λ names. sym own ∙ names, λ names. own ∙ names))

pub returns-in_default : goal.returns-in_default
returns-in_default c =
    let other = λ (e : string_bytes c.in-Some.next.now ≡ (get_or c.args.names.now c.loop-name.name-index _).now). false≢true (sym c.if-eq.false ∙ c.eq.ensures ∙ (bytes_eq-Decides _ _).1 (c.as_str.ensures.value ∙ e)) in
    (λ no. absurd (false≢true no), λ names. absurd (left_other _ _ _ _ _ _ _ c.loop-name.invariant.2 c.in-Some.ensures.steps c.loop-name-test.true other names))

pub loop-name-preserved : goal.loop-name-preserved
loop-name-preserved c =
    let same = sym c.as_str.ensures.value ∙ (bytes_eq-Decides _ _).0 (sym c.eq.ensures ∙ c.if-eq.true) in
    (tt, tt, left_more _ _ _ _ _ _ _ c.loop-name.invariant.2 c.in-Some.ensures.steps c.loop-name-test.true same)

pub returns-in_default-2 : goal.returns-in_default-2
returns-in_default-2 c =
    let none = (rw c.in_default.is at c.next.ensures.steps).0 in
    let other = left_none _ _ _ _ c.loop-name.invariant.2 none c.loop-name-test.true in
    (λ no. absurd (false≢true no), λ names. absurd (other names))
