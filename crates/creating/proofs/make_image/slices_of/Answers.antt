use Rattle.std.proofs.Common.{map, subst}
use Rattle.std.proofs.lemmas.List.{take_all}
use Rattle.std.specs.List.{AllZip}
use Rattle.common.proofs.Mapped.{AllZip-more}
use Rattle.creating.specs.NewImageEnd.{AreAlternatives}
use Rattle.creating.proofs.make_image.slices_of.Goals as goal

-- The alternatives of one more group are added.
pub loop-group-preserved : goal.loop-group-preserved
loop-group-preserved c =
    rw c.in_ok-push.ensures.items
    (AllZip-more AreAlternatives (λ group. group.items) c.args.groups.now c.loop-group.slices.items
    c.loop-group.group-index c.group-item.result c.as_slice.result c.loop-group-test.true c.group-item.is
    c.loop-group.invariant c.as_slice.ensures.value)

-- The slices are those of all groups.
pub returns : goal.returns
returns c =
    subst (λ groups. AllZip AreAlternatives (map (λ group. group.items) groups) c.loop-group.slices.items)
    (take_all c.loop-group.group-index c.args.groups.now c.loop-group-test.false) c.loop-group.invariant
