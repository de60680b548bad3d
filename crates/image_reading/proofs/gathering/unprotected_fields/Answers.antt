use Rattle.std.proofs.Common.{ap, arith}
use Rattle.image_reading.specs.declared.span.Span.{Span}
use Rattle.image_reading.specs.Fields.{digest_kind}
use Rattle.image_reading.specs.SlotTlvs.{slot_tlvs_left, values_at}
use Rattle.image_reading.proofs.Walks.{HasWalked-step, IsFilled-walked}
use Rattle.image_reading.proofs.gathering.unprotected_fields.Goals as goal

pub loop-entry-preserved : goal.loop-entry-preserved
loop-entry-preserved g c =
    let chip = g.M.Medium.chip c.args.medium.now in
    let all = values_at digest_kind chip c.args.area in
    let so_far = c.loop-entry.invariant in
    let step = rw so_far.walked.same at c.in-Some.ensures.steps in
    let value = rw so_far.walked.same at c.in-Some.ensures.value in
    let before = rw step at so_far.digest in
    record {
      walked = HasWalked-step _ _ _ _ _ _ so_far.walked c.step.ensures.same c.in-Some.ensures.readable
          c.in-Some.ensures.rest;
      digest = c.with-digest.ensures chip all (slot_tlvs_left chip c.step.new.self) value before;
    }

pub returns-then-not-is_filled-clause-not_filled : goal.returns-then-not-is_filled-clause-not_filled
returns-then-not-is_filled-clause-not_filled g c =
    let filled =
    IsFilled-walked _ _ _ _ _ c.loop-entry.invariant.walked (g.met.M.Medium.bytes c.args.medium.now)
    c.requires.short c.requires.readable c.step.ensures.readable c.in_default.ensures.ended in
    let len = ap (λ (span : Span). span.len) c.rest-is_filled.ensures in
    λ is. omega (arith, c.if-not-is_filled.true, filled.1 is, len)

pub returns-clause-filled : goal.returns-clause-filled
returns-clause-filled g c =
    let filled =
    IsFilled-walked _ _ _ _ _ c.loop-entry.invariant.walked (g.met.M.Medium.bytes c.args.medium.now)
    c.requires.short c.requires.readable c.step.ensures.readable c.in_default.ensures.ended in
    let len = ap (λ (span : Span). span.len) c.rest-is_filled.ensures in
    filled.0 (omega (arith, c.if-not-is_filled.false, len))
