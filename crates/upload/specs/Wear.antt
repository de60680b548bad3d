-- The number of sectors that accepting a manifest has to erase: those that aren't erased.
use Rattle.std.specs.Prelude.{◌≡◌, ℕ, zero, suc, ◌+◌, ◌*◌, ◌==◌, List, [], ◌∷◌, slice_range, if◌then◌else◌}
use Rattle.flash_model.specs.Chip.{Chip}
use Rattle.sector_map.specs.declared.layout.SectorMap.{SectorMap}
use Rattle.sector_map.specs.declared.layout.Side.TheVariants.{Secondary}
use Rattle.sector_map.specs.Map.{slot_sectors}
use Rattle.flash_model.specs.Units.{are_erased}
use Rattle.trailer.specs.Fields.{trailer_bytes}
use Rattle.trailer.specs.Standing.{incoming_slot}
use Rattle.set_log.specs.Log.{is_place_free}
use Rattle.manifest.specs.declared.manifest.Component.{Component}
use Rattle.machine.specs.Accepted.{is_named}

-- 0 if all of these bytes are erased, else 1.
abbrev pub one_unless_erased : List ℕ → ℕ
one_unless_erased bytes = if are_erased bytes then 0 else 1

-- The bytes of a sector, given by its index, in bytes that are sectors of this size.
abbrev pub sector_in : ℕ → List ℕ → ℕ → List ℕ
sector_in size bytes index = slice_range bytes (index * size) ((index + 1) * size)

-- The number of sectors that aren't erased, of the first `n`.
abbrev pub worn_in : ℕ → List ℕ → ℕ → ℕ
worn_in size bytes zero = 0
worn_in size bytes (suc n) = worn_in size bytes n + one_unless_erased (sector_in size bytes n)

-- The number of sectors that aren't erased, of the secondary slot of an image.
abbrev pub worn_slot : SectorMap → Chip → ℕ → ℕ
worn_slot map chip i = worn_in map.sector_size (incoming_slot map chip i) (slot_sectors map i)

-- The number of sectors that aren't erased, of the secondary slot of an image and its trailer.
abbrev pub worn : SectorMap → Chip → ℕ → ℕ
worn map chip i = worn_slot map chip i + one_unless_erased (trailer_bytes map chip i Secondary)

-- The number of sectors that aren't erased, of all images that components name. An image that
-- several components name is counted once: at the last component that names it.
abbrev pub worn_of : SectorMap → Chip → List Component → ℕ
worn_of map chip [] = 0
worn_of map chip (c ∷ cs) =
    (if is_named cs c.image then 0 else worn map chip c.image) + worn_of map chip cs

-- The number of sectors that recording a sequence number erases. It is 0 if the number is recorded
-- already or a place of the log is free, else 1.
abbrev pub erases_of_record : SectorMap → Chip → ℕ → ℕ → ℕ
erases_of_record map chip recorded sequence =
    if recorded == sequence then 0 else if is_place_free map chip then 0 else 1

-- The bytes that opening the slots of components asks a journal for, at most: 32 for each, and 12
-- for each sector of its slot.
abbrev pub journal_of_components : SectorMap → List Component → ℕ
journal_of_components map [] = 0
journal_of_components map (c ∷ cs) =
    (32 + 12 * slot_sectors map c.image) + journal_of_components map cs

-- Accepting a manifest with this sequence number and these components erased exactly that number of
-- sectors.
abbrev pub ErasesWorn : SectorMap → Chip → Chip → ℕ → ℕ → List Component → Type 0
ErasesWorn map old new recorded sequence cs = new.erases
    ≡ old.erases + (erases_of_record map old recorded sequence + worn_of map old cs)
