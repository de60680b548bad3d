-- What a device holds after its flash was provisioned.
use Rattle.flash_model.specs.Chip.{Chip}
use Rattle.sector_map.specs.declared.layout.SectorMap.{SectorMap}
use Rattle.machine.specs.Device.{DeviceState}
use Rattle.machine.specs.Boots.{IsAllSound}
use Rattle.flash_contents.specs.Holding.{DeviceView, Holds}
use Rattle.flash_contents.specs.Lifecycle.{IsJustMade}
use Rattle.machine.specs.States.{asleep}
use Rattle.boot_core.specs.Provisioned.{IsFirstState}

-- A device that is made over the new flash holds the first state of what the primary slots of the
-- old one began with. What that state runs is intact and valid.
abbrev pub HoldsFirst : SectorMap → Chip → Chip → Type 0
HoldsFirst map old new = (s : DeviceState) × IsFirstState map old s × IsAllSound s
    × ((device : DeviceView) → IsJustMade new device → Holds map device (asleep s))
