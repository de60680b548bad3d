-- Masks: sets of images, with one bit for each image.
use Rattle.std.specs.Prelude.{ℕ, Bool, ◌==◌, ◌/◌, ◌%◌, ◌^◌}

-- Bit i of a mask: whether image i is in it.
unfoldable pub is_member : ℕ → ℕ → Bool
is_member mask i = mask / 2 ^ i % 2 == 1
