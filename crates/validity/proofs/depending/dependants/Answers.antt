use Rattle.std.proofs.Common.{◌≡◌, ◌≤◌, ◌∙◌, length, ap, arith}
use Rattle.common.proofs.Masks.{told_of}
use Rattle.validity.specs.Dependants.{asks_for}
use Rattle.validity.proofs.depending.dependants.Goals as goal

pub returns : goal.returns
returns c =
    let images = c.args.table.now.images.items in
    let long : length c.deref-image-items.result.now ≡ length images =
    ap length c.deref-image-items.ensures.0 in
    let all : length images ≤ c.loop-image.image-index = omega (arith, long) in
    λ i. c.mask_of.ensures.each i
    ∙ told_of (asks_for c.args.number) images c.loop-image.image-index c.deref.result.now all
    (c.deref.ensures.0 ∙ c.loop-image.invariant) i
