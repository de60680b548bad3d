use Rattle.std.proofs.Common.{ap, ◌∙◌, arith}
use Rattle.image_reading.specs.declared.span.Span.{Span}
use Rattle.image_reading.specs.Fields.{counter_kind, dependency_kind, group_kind}
use Rattle.image_reading.specs.SlotTlvs.{slot_tlvs_left, values_at}
use Rattle.image_reading.proofs.Walks.{HasWalked-step, IsFilled-walked}
use Rattle.image_reading.proofs.gathering.protected_fields.Goals as goal

pub loop-entry-preserved : goal.loop-entry-preserved
loop-entry-preserved g c =
    let chip = g.M.Medium.chip c.args.medium.now in
    let dependencies = values_at dependency_kind chip c.args.area in
    let groups = values_at group_kind chip c.args.area in
    let counters = values_at counter_kind chip c.args.area in
    let so_far = c.loop-entry.invariant in
    let same = c.step.ensures.same ∙ so_far.walked.same in
    let step = rw so_far.walked.same at c.in-Some.ensures.steps in
    let value = rw so_far.walked.same at c.in-Some.ensures.value in
    let after = slot_tlvs_left chip c.step.new.self in
    let met = rw same at c.meet.ensures.met in
    let met_groups = rw (c.meet.ensures.same, same) at c.meet-in-Some.ensures.met in
    let before = rw step at so_far.dependencies in
    let before_groups = rw step at so_far.groups in
    let counted = rw step at so_far.counter in
    record {
      walked = HasWalked-step _ _ _ _ _ _ so_far.walked
          (c.meet-in-Some.ensures.same ∙ c.meet.ensures.same ∙ c.step.ensures.same) c.in-Some.ensures.readable
          c.in-Some.ensures.rest;
      dependencies = met dependencies after before;
      groups = met_groups groups after before_groups;
      counter = c.with-counter.ensures chip counters after value counted;
    }

pub returns-then-not-is_filled-clause-not_filled : goal.returns-then-not-is_filled-clause-not_filled
returns-then-not-is_filled-clause-not_filled g c =
    let filled =
    IsFilled-walked _ _ _ _ _ c.loop-entry.invariant.walked (g.met.M.Medium.bytes c.args.medium.now)
    c.requires.short c.requires.readable c.step.ensures.readable c.in_default.ensures.ended in
    let len = ap (λ (span : Span). span.len) c.rest-is_filled.ensures in
    λ is. omega (arith, c.if-not-is_filled.true, filled.1 is, len)

pub returns-clause-filled : goal.returns-clause-filled
returns-clause-filled g c =
    let filled =
    IsFilled-walked _ _ _ _ _ c.loop-entry.invariant.walked (g.met.M.Medium.bytes c.args.medium.now)
    c.requires.short c.requires.readable c.step.ensures.readable c.in_default.ensures.ended in
    let len = ap (λ (span : Span). span.len) c.rest-is_filled.ensures in
    filled.0 (omega (arith, c.if-not-is_filled.false, len))
