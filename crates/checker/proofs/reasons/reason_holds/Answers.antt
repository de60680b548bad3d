use Rattle.std.proofs.Common.{rules, ◌≡◌, ◌∙◌, Bool, true, false, IsTrue, ap, refl, sym}
use Rattle.std.specs.Prelude.{◌↔◌}
use Rattle.std.proofs.lemmas.Bool.{false≢true}
use Rattle.reports.specs.Combination.{intact_entry}
use Rattle.checker.proofs.ImageLookups.{image_at-found, image_at-missing}
use Rattle.checker.proofs.Unmet.{damaged-intact, no_reason-missing, no_reason-other, no_where, none-damaged}
use Rattle.checker.proofs.reasons.reason_holds.Goals as goal

-- A test that computes another one.
as_test : (test other : Bool) → test ≡ other → IsTrue test ↔ IsTrue other
as_test test other same = (λ yes. sym same ∙ yes, λ yes. same ∙ yes)

-- Two tests, the second of which is made only if the first passes.
then_both :
    {A B : Type 0} (first second : Bool) → first ≡ true → (IsTrue first ↔ A) → (IsTrue second ↔ B) →
    IsTrue second ↔ (A × B)
then_both first second passed a b = (λ yes. (a.0 passed, b.0 yes), λ both. b.1 both.1)

else_both : {A B : Type 0} (first : Bool) → first ≡ false → (IsTrue first ↔ A) → IsTrue first ↔ (A × B)
else_both first failed a = (λ yes. absurd (false≢true (sym failed ∙ yes)), λ both. a.1 both.0)

-- The table has no such image, or the image has no request.
pub returns-in_default : goal.returns-in_default
returns-in_default c =
    let none = image_at-missing _ _ _ _ c.deref.ensures.0 c.from.ensures c.in_default.ensures.lookup.0 in
    no_where (no_reason-missing c.args.table.now c.args.before.now c.args.own c.args.reason.now none)

pub returns-in-None : goal.returns-in-None
returns-in-None c =
    let at = image_at-found _ _ _ _ _ c.deref.ensures.0 c.from.ensures c.in-Some.ensures.lookup.0
    c.in-Some.ensures.lookup.1 in
    no_where (no_reason-other c.args.table.now c.args.before.now c.args.own c.in-Some.image.now c.args.reason.now at
    (ap intact_entry c.in-None.is) (λ reason. none-damaged _ c.in-None.is))

-- A damaged request is refused only as damaged, and an intact one only for another reason.
pub returns-in-Damaged-matches : goal.returns-in-Damaged-matches
returns-in-Damaged-matches c =
    let at = image_at-found _ _ _ _ _ c.deref.ensures.0 c.from.ensures c.in-Some.ensures.lookup.0
    c.in-Some.ensures.lookup.1 in
    rw (c.in-Damaged-matches.is, at) (λ yes. c.in-Damaged.is, λ holds. refl)

pub returns-in_default-matches : goal.returns-in_default-matches
returns-in_default-matches c =
    let at = image_at-found _ _ _ _ _ c.deref.ensures.0 c.from.ensures c.in-Some.ensures.lookup.0
    c.in-Some.ensures.lookup.1 in
    no_where (no_reason-other c.args.table.now c.args.before.now c.args.own c.in-Some.image.now c.args.reason.now at
    (ap intact_entry c.in-Damaged.is) (λ reason. absurd (c.in_default-matches.not-Damaged reason)))

pub returns-in-Damaged-reason : goal.returns-in-Damaged-reason
returns-in-Damaged-reason c =
    let at = image_at-found _ _ _ _ _ c.deref.ensures.0 c.from.ensures c.in-Some.ensures.lookup.0
    c.in-Some.ensures.lookup.1 in
    rw (c.in-Damaged-reason.is, at) (no_where (λ damaged. damaged-intact _ _ damaged c.in-Entry.is))

pub returns-in-Older : goal.returns-in-Older
returns-in-Older c =
    let at = image_at-found _ _ _ _ _ c.deref.ensures.0 c.from.ensures c.in-Some.ensures.lookup.0
    c.in-Some.ensures.lookup.1 in
    rw (c.in-Older.is, at, c.in-Entry.is) (search rules)

pub returns-in-Counter : goal.returns-in-Counter
returns-in-Counter c =
    let at = image_at-found _ _ _ _ _ c.deref.ensures.0 c.from.ensures c.in-Some.ensures.lookup.0
    c.in-Some.ensures.lookup.1 in
    rw (c.in-Counter.is, at, c.in-Entry.is) (search rules)

pub returns-then-depends_on : goal.returns-then-depends_on
returns-then-depends_on c =
    let at = image_at-found _ _ _ _ _ c.deref.ensures.0 c.from.ensures c.in-Some.ensures.lookup.0
    c.in-Some.ensures.lookup.1 in
    rw (c.in-NoSuchImage.is, at, c.in-Entry.is)
    (then_both _ _ c.if-depends_on.true (as_test _ _ c.depends_on.ensures) c.is_missing.ensures)

pub returns-else-depends_on : goal.returns-else-depends_on
returns-else-depends_on c =
    let at = image_at-found _ _ _ _ _ c.deref.ensures.0 c.from.ensures c.in-Some.ensures.lookup.0
    c.in-Some.ensures.lookup.1 in
    rw (c.in-NoSuchImage.is, at, c.in-Entry.is)
    (else_both _ c.if-depends_on.false (as_test _ _ c.depends_on.ensures))

pub returns-then-has_dependency : goal.returns-then-has_dependency
returns-then-has_dependency c =
    let at = image_at-found _ _ _ _ _ c.deref.ensures.0 c.from.ensures c.in-Some.ensures.lookup.0
    c.in-Some.ensures.lookup.1 in
    rw (c.in-Needs.is, at, c.in-Entry.is)
    (then_both _ _ c.if-has_dependency.true c.has_dependency.ensures (as_test _ _ c.is_out_of_reach.ensures))

pub returns-else-has_dependency : goal.returns-else-has_dependency
returns-else-has_dependency c =
    let at = image_at-found _ _ _ _ _ c.deref.ensures.0 c.from.ensures c.in-Some.ensures.lookup.0
    c.in-Some.ensures.lookup.1 in
    rw (c.in-Needs.is, at, c.in-Entry.is)
    (else_both _ c.if-has_dependency.false c.has_dependency.ensures)

pub returns-then-has_group : goal.returns-then-has_group
returns-then-has_group c =
    let at = image_at-found _ _ _ _ _ c.deref.ensures.0 c.from.ensures c.in-Some.ensures.lookup.0
    c.in-Some.ensures.lookup.1 in
    rw (c.in-NeedsOne.is, at, c.in-Entry.is)
    (then_both _ _ c.if-has_group.true c.has_group.ensures (as_test _ _ c.is_group_out_of_reach.ensures))

pub returns-else-has_group : goal.returns-else-has_group
returns-else-has_group c =
    let at = image_at-found _ _ _ _ _ c.deref.ensures.0 c.from.ensures c.in-Some.ensures.lookup.0
    c.in-Some.ensures.lookup.1 in
    rw (c.in-NeedsOne.is, at, c.in-Entry.is)
    (else_both _ c.if-has_group.false c.has_group.ensures)
