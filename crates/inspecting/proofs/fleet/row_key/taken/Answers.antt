use Rattle.std.proofs.Common.{◌≡◌, ◌<◌, ◌≤◌, ◌∙◌, true, Result, Ok, Err, OnOk, ap, is_ok, inl, inr, length, sym}
use Rattle.std.proofs.lemmas.Bool.{cases_lt, false≢true}
use Rattle.std.specs.Prelude.{option_map}
use Rattle.common.specs.declared.limits.TheConstants.{MOST_IMAGES}
use Rattle.reports.specs.LineReading.{more_alternatives}
use Rattle.inspecting.proofs.RowKeyLaws.{taken-full, taken-no_version, taken-step, taken-wrong}
use Rattle.inspecting.proofs.fleet.row_key.taken.Goals as goal

-- What holds after a push that succeeded.
pushed : {T E P : Type 0} (result : Result T E) → true ≡ is_ok result → OnOk result P → P
pushed (Ok x) went fact = fact
pushed (Err e) went fact = cc

-- No version follows a number.
pub returns-in_err-after : goal.returns-in_err-after
returns-in_err-after c =
    ap (option_map (λ images. images.items)) c.from_residual.ensures
    ∙ taken-no_version c.loop-rest.images.items c.in-Some.fields.now
    (rw c.in_err-after.was at c.cut.ensures.after)
    ∙ (rw c.in-Some.is at c.loop-rest.invariant)

-- Two words are no image and version.
pub returns-in_err-taken : goal.returns-in_err-taken
returns-in_err-taken c =
    ap (option_map (λ images. images.items)) c.from_residual-in_err-taken.ensures
    ∙ taken-wrong c.loop-rest.images.items c.in-Some.fields.now c.in_ok-after.field-0.now
    (rw c.in_ok-after.was at c.cut.ensures.after)
    (rw (c.cut.ensures.before, c.cut-in-Some.ensures.before) at c.in_err-taken.ensures)
    ∙ (rw c.in-Some.is at c.loop-rest.invariant)

-- There are too many.
pub returns-in_err-ok : goal.returns-in_err-ok
returns-in_err-ok c =
    let full : MOST_IMAGES ≤ length c.loop-rest.images.items =
    elim (cases_lt (length c.loop-rest.images.items) MOST_IMAGES) [
      | inl room ↦ absurd (false≢true (c.in_err-ok.ensures.variant ∙ c.try_push.ensures.variant.1 room))
      | inr full ↦ full
    ] in
    ap (option_map (λ images. images.items)) c.from_residual-in_err-ok.ensures
    ∙ taken-full c.loop-rest.images.items c.in-Some.fields.now full
    ∙ (rw c.in-Some.is at c.loop-rest.invariant)

-- One more image is read.
pub loop-rest-preserved : goal.loop-rest-preserved
loop-rest-preserved c =
    let room : length c.loop-rest.images.items < MOST_IMAGES = c.try_push.ensures.variant.0 (sym c.in_ok-ok.ensures.variant) in
    let step = taken-step c.loop-rest.images.items c.in-Some.fields.now c.in_ok-after.field-0.now
    c.in_ok-taken.taken room
    (rw c.in_ok-after.was at c.cut.ensures.after)
    (rw (c.cut.ensures.before, c.cut-in-Some.ensures.before) at c.in_ok-taken.ensures) in
    rw (pushed c.try_push.result c.in_ok-ok.ensures.variant c.try_push.ensures.ok, c.cut-in-Some.ensures.after)
    (sym step ∙ (rw c.in-Some.is at c.loop-rest.invariant))

-- All images are read.
pub returns : goal.returns
unfolding more_alternatives
returns c = rw c.in_default.is at c.loop-rest.invariant
