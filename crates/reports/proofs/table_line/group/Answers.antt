use Rattle.std.proofs.Common.{◌≡◌, ◌<◌, ◌≤◌, ◌∙◌, true, Result, Ok, Err, OnOk, is_ok, inl, inr, length, sym}
use Rattle.std.proofs.lemmas.Bool.{cases_lt, false≢true}
use Rattle.common.specs.declared.limits.TheConstants.{MOST_ALTERNATIVES}
use Rattle.reports.specs.LineReading.{more_alternatives}
use Rattle.reports.proofs.AlternativeLaws.{group_from-full, group_from-no_version, group_from-step, group_from-wrong}
use Rattle.reports.proofs.table_line.group.Goals as goal

-- What holds after a push that succeeded.
pushed : {T E P : Type 0} (result : Result T E) → true ≡ is_ok result → OnOk result P → P
pushed (Ok x) went fact = fact
pushed (Err e) went fact = cc

pub returns-in_err-after : goal.returns-in_err-after
returns-in_err-after c =
    c.from_residual.ensures
    ∙ group_from-no_version c.loop-rest.group.alternatives.items c.in-Some.fields.now
    (rw c.in_err-after.was at c.cut.ensures.after)
    ∙ (rw c.in-Some.is at c.loop-rest.invariant)

pub returns-in_err-alternative : goal.returns-in_err-alternative
returns-in_err-alternative c =
    c.from_residual-in_err-alternative.ensures
    ∙ group_from-wrong c.loop-rest.group.alternatives.items c.in-Some.fields.now c.in_ok-after.field-0.now
    (rw c.in_ok-after.was at c.cut.ensures.after)
    (rw (c.cut.ensures.before, c.cut-in-Some.ensures.before) at c.in_err-alternative.ensures)
    ∙ (rw c.in-Some.is at c.loop-rest.invariant)

pub returns-in_err-ok : goal.returns-in_err-ok
returns-in_err-ok c =
    let full : MOST_ALTERNATIVES ≤ length c.loop-rest.group.alternatives.items =
    elim (cases_lt (length c.loop-rest.group.alternatives.items) MOST_ALTERNATIVES) [
      | inl room ↦ absurd (false≢true (c.in_err-ok.ensures.variant ∙ c.try_push.ensures.variant.1 room))
      | inr full ↦ full
    ] in
    c.from_residual-in_err-ok.ensures
    ∙ group_from-full c.loop-rest.group.alternatives.items c.in-Some.fields.now full
    ∙ (rw c.in-Some.is at c.loop-rest.invariant)

pub loop-rest-preserved : goal.loop-rest-preserved
loop-rest-preserved c =
    let room : length c.loop-rest.group.alternatives.items < MOST_ALTERNATIVES =
    c.try_push.ensures.variant.0 (sym c.in_ok-ok.ensures.variant) in
    let step = group_from-step c.loop-rest.group.alternatives.items c.in-Some.fields.now c.in_ok-after.field-0.now
    c.in_ok-alternative.alternative room
    (rw c.in_ok-after.was at c.cut.ensures.after)
    (rw (c.cut.ensures.before, c.cut-in-Some.ensures.before) at c.in_ok-alternative.ensures) in
    rw (pushed c.try_push.result c.in_ok-ok.ensures.variant c.try_push.ensures.ok, c.cut-in-Some.ensures.after)
    (sym step ∙ (rw c.in-Some.is at c.loop-rest.invariant))

pub returns : goal.returns
unfolding more_alternatives
returns c = rw c.in_default.is at c.loop-rest.invariant
