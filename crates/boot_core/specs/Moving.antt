-- Which parts of a flash a boot may write.
use Rattle.std.specs.Prelude.{ℕ, Bool, true, false, ◌||◌, Option, Some, None, is_some}
use Rattle.flash_model.specs.Chip.{Chip}
use Rattle.sector_map.specs.Part.{Part, Slot, TrailerOf, Scratch, Log}
use Rattle.common.specs.Masks.{is_member}
use Rattle.sector_map.specs.declared.layout.SectorMap.{SectorMap}
use Rattle.set_log.specs.declared.state.State.{State}
use Rattle.set_log.specs.Log.{state_of}
use Rattle.upload.specs.Steady.{request_in}
use Rattle.upload.specs.View.{view}

-- Whether an image is in the set of the log's record.
abbrev pub is_recorded : Option State → ℕ → Bool
is_recorded None i = false
is_recorded (Some state) i = is_member state.mask i

-- Whether a boot may move an image: it is in the set of the log's record, or it is requested.
abbrev pub may_move : SectorMap → Chip → ℕ → Bool
may_move map chip i = is_recorded (state_of map chip) i || is_some (request_in (view map chip) i)

-- What a boot writes that moves these images: the log, scratch, and the slots and trailers of the
-- images.
abbrev pub moved_parts : (ℕ → Bool) → Part → Bool
moved_parts moves (Slot i side) = moves i
moved_parts moves (TrailerOf i side) = moves i
moved_parts moves Scratch = true
moved_parts moves Log = true

-- What is written once the slots of a set are swapped: its trailers and the log.
abbrev pub settled_parts : ℕ → Part → Bool
settled_parts mask (Slot i side) = false
settled_parts mask (TrailerOf i side) = is_member mask i
settled_parts mask Scratch = false
settled_parts mask Log = true
