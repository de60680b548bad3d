-- How each passage of a boot ends. A passage is a part of a boot that goes on from a record.
use Rattle.std.specs.Prelude.{ℕ, Bool, Result, IfOk}
use Rattle.flash_model.specs.Chip.{Chip, Ends}
use Rattle.flash_model.specs.declared.error.FlashError.{FlashError}
use Rattle.sector_map.specs.Map.{IsLaidOut, Keeps}
use Rattle.sector_map.specs.Part.{Part}
use Rattle.sector_map.specs.declared.layout.SectorMap.{SectorMap}
use Rattle.machine.specs.Device.{DeviceState}
use Rattle.upload.specs.View.{view}
use Rattle.flash_contents.specs.Passing.{CutsBoot, EndsBoot}
use Rattle.flash_contents.specs.Starting.{StartsBy}
use Rattle.machine.specs.declared.reply.Reply.{Reply}
use Rattle.boot_core.specs.Answers.{IsBootReply}
use Rattle.boot_core.specs.Moving.{moved_parts}

-- The map stays laid out on the flash. Only these parts of it are changed.
pub record KeepsLayout (map : SectorMap) (touched : Part → Bool) (old new : Chip) : Type 0 where
  pub laid : IsLaidOut map new
  pub on_map : (start : Chip) → Keeps map touched start old → Keeps map touched start new

-- A passage of a boot writes only these parts. It promises `whatever` however it ends, and `at_end`
-- of its value if it succeeds.
pub record Passes (map : SectorMap) (touched : Part → Bool) (old new : Chip) (whatever : Type 0)
    {T : Type 0} (at_end : T → Type 0) (result : Result T FlashError) : Type 0 where
  pub layout : KeepsLayout map touched old new
  pub open layout use *
  pub stands : whatever
  pub done : IfOk result at_end
  pub ends : Ends result old new

-- A passage of a boot gives this reply. For each state that the device was in, the flash holds a
-- state that a boot with this reply ends in. The wear of the passage follows from the reply.
pub record GivesReply (map : SectorMap) (boots : ℕ) (was : DeviceState → Type 0)
    (worn : Reply → Type 0) (new : Chip) (reply : Reply) : Type 0 where
  pub ok : (s : DeviceState) → was s → EndsBoot map boots new s reply
  pub erases : worn reply
  pub told : IsBootReply reply
  -- The primary slots begin with what the reply says, whatever state the device was in.
  pub starts : StartsBy (view map new) reply

-- How a passage of a boot ends that may move these images, for each state that the device was in. A
-- trial that begins lasts `boots` boots. This boot is the first of them.
pub record BootEnds (map : SectorMap) (moves : ℕ → Bool) (boots : ℕ) (was : DeviceState → Type 0)
    (worn : Reply → Type 0) (old new : Chip) (result : Result Reply FlashError) : Type 0 where
  pub layout : KeepsLayout map (moved_parts moves) old new
  pub open layout use *
  -- However the passage ends, the flash holds a state that a boot which is cut can leave.
  pub stands : (s : DeviceState) → was s → CutsBoot map boots new s
  -- If the passage succeeds, it gives its reply.
  pub done : IfOk result (GivesReply map boots was worn new)
  pub ends : Ends result old new

-- A passage in which no trial begins ends so for any number of boots.
pub record BootEndsForAny (map : SectorMap) (moves : ℕ → Bool) (was : DeviceState → Type 0)
    (worn : Reply → Type 0) (old new : Chip) (result : Result Reply FlashError) : Type 0 where
  pub boot : (boots : ℕ) → BootEnds map moves boots was worn old new result
