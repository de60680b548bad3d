use Rattle.device_texts.proofs.JsonLaws.{none-made, one-made, reported-in, reported-more, reported-out}
use Rattle.device_texts.proofs.json.report.reported_images.Goals as goal
use Rattle.device_texts.proofs.json.report.reported_images.Goals.{then-is_taken-image+in_ok-value+in_ok-push, else-is_taken-image}

-- The object of one more image is added, if it is wanted.
pub loop-number-preserved : goal.loop-number-preserved
loop-number-preserved c =
    elim c.if-is_taken-image.branch [
      | then-is_taken-image+in_ok-value+in_ok-push w ↦
          rw (w.values-is, w.in_ok-push.ensures.ok)
          (one-made c.loop-number.values.items w.in_ok-value.value _ _ _ _
          (reported-more c.args.is_taken c.args.images.now c.loop-number.number _ c.loop-number-test.true)
          (reported-in c.args.is_taken c.loop-number.number _ w.if-is_taken-image.true)
          c.loop-number.invariant w.in_ok-value.ensures)
      | else-is_taken-image w ↦
          rw w.values-is
          (none-made c.loop-number.values.items _ _ _
          (reported-more c.args.is_taken c.args.images.now c.loop-number.number _ c.loop-number-test.true)
          (reported-out c.args.is_taken c.loop-number.number _ w.if-is_taken-image.false)
          c.loop-number.invariant)
    ]
