use Rattle.std.proofs.Common.{◌≡◌, ◌++◌, string_bytes, take}
use Rattle.std.specs.List.{flat_map}
use Rattle.inspecting.specs.SlotsText.{image_text}
use Rattle.inspecting.proofs.slots_text.write_images.Given as goal

-- The text of the images so far follows the old text.
abbrev pub invariant-loop-slots : goal.invariant-loop-slots
invariant-loop-slots l =
    string_bytes l.text ≡ string_bytes l.fn.text ++ flat_map image_text (take l.slots-index l.images)
