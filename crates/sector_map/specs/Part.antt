-- The parts of a flash, and tests of parts that say which of them a call may touch.
use Rattle.std.specs.Prelude.{ℕ, Bool, true, false, ◌==◌, ◌&&◌, ◌/◌, ◌%◌, ◌^◌}
use Rattle.common.specs.Masks.{is_member}
use Rattle.sector_map.specs.declared.layout.Side.{Side}
use Rattle.sector_map.specs.declared.layout.Side.TheVariants.{Primary, Secondary}

-- A part: a slot of an image, the trailer of a slot, the scratch sector, or the log.
pub data Part : Type 0 where
  Slot : ℕ → Side → Part
  TrailerOf : ℕ → Side → Part
  Scratch : Part
  Log : Part

abbrev pub same_side : Side → Side → Bool
same_side Primary Primary = true
same_side Primary Secondary = false
same_side Secondary Primary = false
same_side Secondary Secondary = true

-- This part and no other.
abbrev pub only : Part → Part → Bool
only (Slot j on) (Slot i side) = (i == j) && same_side side on
only (Slot j on) (TrailerOf i side) = false
only (Slot j on) Scratch = false
only (Slot j on) Log = false
only (TrailerOf j on) (Slot i side) = false
only (TrailerOf j on) (TrailerOf i side) = (i == j) && same_side side on
only (TrailerOf j on) Scratch = false
only (TrailerOf j on) Log = false
only Scratch (Slot i side) = false
only Scratch (TrailerOf i side) = false
only Scratch Scratch = true
only Scratch Log = false
only Log (Slot i side) = false
only Log (TrailerOf i side) = false
only Log Scratch = false
only Log Log = true

-- Both trailers of an image.
abbrev pub trailers_of : ℕ → Part → Bool
trailers_of j (Slot i side) = false
trailers_of j (TrailerOf i side) = i == j
trailers_of j Scratch = false
trailers_of j Log = false

-- The trailers on one side of the images of a mask.
abbrev pub trailers_on : ℕ → Side → Part → Bool
trailers_on mask on (Slot i side) = false
trailers_on mask on (TrailerOf i side) = is_member mask i && same_side side on
trailers_on mask on Scratch = false
trailers_on mask on Log = false

-- Both trailers of the images of a mask.
abbrev pub trailers_in : ℕ → Part → Bool
trailers_in mask (Slot i side) = false
trailers_in mask (TrailerOf i side) = is_member mask i
trailers_in mask Scratch = false
trailers_in mask Log = false

-- Where an incoming image is written: its secondary slot and that slot's trailer.
abbrev pub incoming_of : ℕ → Part → Bool
incoming_of j (Slot i side) = (i == j) && same_side side Secondary
incoming_of j (TrailerOf i side) = (i == j) && same_side side Secondary
incoming_of j Scratch = false
incoming_of j Log = false

-- What a swap of one image writes: both its slots, its trailer on one side, and scratch.
abbrev pub swap_one : ℕ → Side → Part → Bool
swap_one j on (Slot i side) = i == j
swap_one j on (TrailerOf i side) = (i == j) && same_side side on
swap_one j on Scratch = true
swap_one j on Log = false

-- What a swap of the images of a mask writes: both slots of each, its trailer on one side, scratch.
abbrev pub swap_of : ℕ → Side → Part → Bool
swap_of mask on (Slot i side) = is_member mask i
swap_of mask on (TrailerOf i side) = is_member mask i && same_side side on
swap_of mask on Scratch = true
swap_of mask on Log = false

-- Any part of the map: only what is after the map is unchanged.
abbrev pub any_part : Part → Bool
any_part part = true
