use Rattle.std.proofs.Common.{rules}
use Rattle.std.proofs.Output.{has_written_append, has_written_of_eq}
use Rattle.inspecting.proofs.SummaryLaws.{taken_images-next}
use Rattle.inspecting.proofs.fleet.key.write_images.Goals as goal

-- One more image is written.
pub loop-number-preserved : goal.loop-number-preserved
loop-number-preserved g c = λ plain.
    let before = c.loop-number.invariant plain in
    has_written_of_eq _ _ _ _ _ (taken_images-next c.args.images.now c.loop-number.number _ c.loop-number-test.true)
    (has_written_append _ _ _ _ _ _ before (c.in_ok-write_image.ensures before.plain (search rules)))
