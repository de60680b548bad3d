use Rattle.std.proofs.Common.{◌≡◌, ◌+◌, ◌∷◌, ◌++◌, [], string_bytes, take}
use Rattle.std.proofs.lemmas.List.{flat_map_more, take_more}
use Rattle.inspecting.specs.SlotsText.{image_text}
use Rattle.inspecting.proofs.slots_text.write_images.Goals as goal

-- The text of one more image is added.
pub loop-slots-preserved : goal.loop-slots-preserved
loop-slots-preserved c =
    let item = c.slots-item.result in
    let before = take c.loop-slots.slots-index c.args.images.now in
    let more : take (c.loop-slots.slots-index + 1) c.args.images.now ≡ before ++ item ∷ [] =
    rw (← c.slots-item.is) at (take_more c.args.images.now c.loop-slots.slots-index item c.loop-slots-test.true) in
    rw (c.in_ok-write_image.ensures, c.loop-slots.invariant, more)
    (flat_map_more image_text (string_bytes c.args.text.now) before item)
