use Rattle.std.proofs.Common.{◌∙◌, false, subst}
use Rattle.upload.specs.View.{view}
use Rattle.boot_core.specs.Looking.{IsMemberLost}
use Rattle.boot_core.proofs.Looked.{held_next}
use Rattle.boot_core.proofs.looking.lowest_damaged.Goals as goal

pub loop-image-preserved : goal.loop-image-preserved
loop-image-preserved g c =
    let kept = c.loop-image.invariant in
    let map = c.args.map.now in
    let image = c.loop-image.image in
    record {
      same = c.is_damaged_member.ensures.same ∙ kept.same;
      held = held_next (view map (g.F.Flash.chip c.args.flash.now)) c.args.mask c.args.side image kept.held
          (subst (λ chip. IsMemberLost map c.args.mask image c.args.side chip false) kept.same
          (subst (λ b. IsMemberLost map c.args.mask image c.args.side (g.F.Flash.chip c.loop-image.flash) b)
          c.if-damaged.false c.in_ok-damaged.ensures.ok));
    }
