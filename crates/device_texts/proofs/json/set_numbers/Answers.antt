use Rattle.std.proofs.Common.{sym, ◌∙◌}
use Rattle.device_texts.proofs.JsonLaws.{none-made, one-made, set-in, set-more, set-out}
use Rattle.device_texts.proofs.json.set_numbers.Goals as goal
use Rattle.device_texts.proofs.json.set_numbers.Goals.{then-is_member+in_ok-push, else-is_member}

-- The number of one more image is added, if it is in the set.
pub loop-image-preserved : goal.loop-image-preserved
loop-image-preserved c =
    let more = set-more c.args.set c.loop-image.image in
    elim c.if-is_member.branch [
      | then-is_member+in_ok-push w ↦
          rw (w.numbers-is, w.in_ok-push.ensures.ok)
          (one-made c.loop-image.numbers.items _ _ _ _ _ more
          (set-in c.args.set c.loop-image.image (sym c.is_member.ensures ∙ w.if-is_member.true))
          c.loop-image.invariant w.from.ensures)
      | else-is_member w ↦
          rw w.numbers-is
          (none-made c.loop-image.numbers.items _ _ _ more
          (set-out c.args.set c.loop-image.image (sym c.is_member.ensures ∙ w.if-is_member.false))
          c.loop-image.invariant)
    ]
