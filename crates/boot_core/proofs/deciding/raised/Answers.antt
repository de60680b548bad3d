use Rattle.std.proofs.Common.{◌≡◌, ◌<◌, ◌∙◌, length, max, slice_index, ap, arith}
use Rattle.common.specs.Masks.{is_member}
use Rattle.reports.specs.Combination.{entry_in}
use Rattle.boot_core.proofs.Raised.{raised_next}
use Rattle.boot_core.proofs.deciding.raised.Goals as goal

pub loop-number-preserved : goal.loop-number-preserved
loop-number-preserved c =
    let number = c.loop-number.number in
    let image = c.index-images-number.result in
    let floors = c.args.floors.now in
    let kept = c.loop-number.invariant in
    let here : number < length c.loop-number.raised = omega (arith, kept.size) in
    let value : c.max.result ≡ max (slice_index floors number) (entry_in image (is_member c.args.mask number)).counter =
    c.max.ensures ∙ ap (λ k. max (slice_index floors number) k)
    (c.counter_in.ensures ∙ ap (λ m. (entry_in image m).counter) c.is_member-is_taken.ensures) in
    raised_next c.args.images.now c.args.mask number c.max.result image floors c.loop-number.raised here
    c.index-images-number.is value kept
