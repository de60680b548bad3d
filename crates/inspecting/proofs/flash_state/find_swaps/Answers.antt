use Rattle.std.proofs.Common.{◌∙◌, ap, sym}
use Rattle.inspecting.specs.FlashState.{swap_in, swap_type_in}
use Rattle.inspecting.proofs.SlotLaws.{mapped-more}
use Rattle.inspecting.proofs.flash_state.find_swaps.Goals as goal

-- The swap of one more image is found, by the trailers of the unchanged flash.
pub loop-image-preserved : goal.loop-image-preserved
loop-image-preserved g c =
    let map = c.args.map.now in
    let chip = g.F.Flash.chip c.args.flash.now in
    let n = c.loop-image.image in
    let asked = c.swap_type_on-swap_type.ensures.swap_type ∙ ap (λ one. swap_type_in map one n) c.loop-image.invariant.same in
    record {
      same = c.swap_type_on-swap_type.ensures.same ∙ c.loop-image.invariant.same;
      swaps = rw (c.in_ok-push.ensures.items, c.loop-image.invariant.swaps, asked) (sym (mapped-more (swap_in map chip) n));
    }
