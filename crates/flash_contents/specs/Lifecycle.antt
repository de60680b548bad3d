-- What a state that a device holds means for its flash, as a bootloader sees it.
use Rattle.std.specs.Prelude.{◌≡◌, ℕ, ◌<◌, false, true}
use Rattle.flash_model.specs.Chip.{Chip}
use Rattle.sector_map.specs.Map.{part_of}
use Rattle.sector_map.specs.Part.{Slot}
use Rattle.sector_map.specs.declared.layout.SectorMap.{SectorMap}
use Rattle.sector_map.specs.declared.layout.Side.TheVariants.{Primary}
use Rattle.machine.specs.Device.{DeviceState}
use Rattle.upload.specs.Sessions.{AllClosed}
use Rattle.upload.specs.Steady.{IsFront}
use Rattle.flash_contents.specs.Holding.{DeviceView}

-- A device was just made over a flash: it isn't booted, and no upload is open.
pub record IsJustMade (chip : Chip) (device : DeviceView) : Type 0 where
  pub flash : device.flash ≡ chip
  pub down : device.up ≡ false
  pub closed : AllClosed device.sessions

-- A flash with power, and otherwise the same as another one.
abbrev pub with_power : Chip → Chip
with_power chip = record chip { is_on = true }

-- The primary slot of each image begins with the image that the state runs.
abbrev pub HasRunning : SectorMap → Chip → DeviceState → Type 0
HasRunning map chip s = (i : ℕ) → i < s.images
    → IsFront (part_of map chip (Slot i Primary)) (s.running i)
