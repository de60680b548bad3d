-- Bytes in memory, seen as a flash that is always on.
use Rattle.std.specs.Prelude.{ℕ, List, length}
use Rattle.flash_model.specs.Chip.{Chip}
use Rattle.flash_model.specs.Memory.{new_chip}
use Rattle.image_reading.specs.declared.medium.Memory.{Memory}

abbrev pub memory_chip : List ℕ → Chip
memory_chip bytes = new_chip 1 (length bytes) bytes

abbrev pub chip_of_memory : Memory → Chip
chip_of_memory memory = memory_chip memory.bytes.now
