use Rattle.std.proofs.Common.{◌∷◌, [], ◌++◌, Some, None, sym, ap, ◌∙◌, arith}
use Rattle.std.proofs.lemmas.List.{append-nil}
use Rattle.arrayvec.specs.ArrayVec.{ArrayVec, array_vec_len}
use Rattle.reports.specs.declared.report.Refusal.{Refusal}
use Rattle.chooser.proofs.OwnRefusals.{own_refusals_below, own_refusals_below-more, own_refusals_below-all}
use Rattle.chooser.proofs.own_reasons.put_own_refusals.Goals as goal
use Rattle.chooser.proofs.own_reasons.put_own_refusals.Goals.{in-Some, in_default}

pub loop-number-preserved : goal.loop-number-preserved
loop-number-preserved c =
    let more = own_refusals_below-more c.args.table.now c.deref-image-items.result.now c.loop-number.number c.image-item.result in
    elim c.match-own_refusal.branch [
      | in-Some w ↦
          let added = more
          (Some w.in-Some.refusal) c.deref-image-items.ensures.0 c.loop-number-test.true c.image-item.is
          (sym w.in-Some.is ∙ c.own_refusal.ensures) in
          record {
            listed =
                ap (λ (refusals : ArrayVec Refusal). refusals.items) w.refusals-is ∙ w.push.ensures.items
                ∙ ap (λ listed. listed ++ w.in-Some.refusal ∷ []) c.loop-number.invariant.listed ∙ sym added;
            count = omega (arith, ap array_vec_len w.refusals-is);
          }
      | in_default w ↦
          let added = more None c.deref-image-items.ensures.0 c.loop-number-test.true c.image-item.is
          (sym w.in_default.is ∙ c.own_refusal.ensures) in
          let same = append-nil (own_refusals_below c.args.table.now c.loop-number.number) in
          record {
            listed =
                ap (λ (refusals : ArrayVec Refusal). refusals.items) w.refusals-is ∙ c.loop-number.invariant.listed
                ∙ sym (added ∙ same);
            count = omega (arith, ap array_vec_len w.refusals-is);
          }
    ]

pub returns : goal.returns
returns c = c.loop-number.invariant.listed
    ∙ own_refusals_below-all c.args.table.now c.deref-image-items.result.now c.loop-number.number c.deref-image-items.ensures.0 c.loop-number-test.false
