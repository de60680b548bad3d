use Rattle.std.proofs.Common.{rules, ◌∙◌}
use Rattle.inspecting.proofs.SlotLaws.{AreSlotsUpTo-more}
use Rattle.inspecting.proofs.slots_found.find_images.Goals as goal

-- The slots of one more image are found.
pub loop-image-preserved : goal.loop-image-preserved
loop-image-preserved g c =
    let found = rw c.loop-image.invariant.same at c.find_image.ensures.found in record {
      few = search rules;
      same = c.find_image.ensures.same ∙ c.loop-image.invariant.same;
      count = search rules;
      found = rw c.push.ensures.items
          (AreSlotsUpTo-more c.args.map.now _ c.args.state.now c.loop-image.image c.loop-image.images.items
          c.find_image.result c.loop-image.invariant.found found);
    }

-- The image is one of the map's.
pub find_image-requires : goal.find_image-requires
find_image-requires g c = record {
  laid_out = rw c.loop-image.invariant.same c.requires.laid_out;
  there = search rules;
  on = rw c.loop-image.invariant.same c.requires.on;
}
