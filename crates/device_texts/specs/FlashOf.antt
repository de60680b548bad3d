-- The flash of a device with given bytes, armed for the cuts of a script.
use Rattle.std.specs.Prelude.{◌≡◌, ℕ, ◌*◌, List, length, map}
use Rattle.flash_model.specs.declared.torn.Armed.{Armed}
use Rattle.flash_model.specs.Chip.{Chip}
use Rattle.flash_model.specs.Memory.{new_chip, with_armed}
use Rattle.sector_map.specs.declared.layout.SectorMap.{SectorMap}
use Rattle.sector_map.specs.Map.{sectors_of}
use Rattle.device_texts.specs.declared.flash.CutWrite.{CutWrite}

-- The number of bytes is that of all sectors of the map.
abbrev pub IsFlashOf : SectorMap → List ℕ → Type 0
IsFlashOf map bytes = length bytes ≡ sectors_of map * map.sector_size

-- The flash with these bytes. It has power, it has counted no write, no cut and no erase, and no
-- write is armed.
abbrev pub flash_of : SectorMap → List ℕ → Chip
flash_of map bytes = new_chip map.sector_size (sectors_of map) bytes

-- A cut, in the form in which a flash in memory is armed with it.
abbrev pub armed_of : CutWrite → Armed
armed_of cut = record { at = cut.write; torn = cut.torn }

-- The armed writes of these cuts, in order.
abbrev pub armed_in : List CutWrite → List Armed
armed_in cuts = map armed_of cuts

-- The flash with these bytes, armed with these cuts. Its writes are counted from its making.
abbrev pub armed_chip : SectorMap → List ℕ → List Armed → Chip
armed_chip map bytes cuts = with_armed (flash_of map bytes) cuts
