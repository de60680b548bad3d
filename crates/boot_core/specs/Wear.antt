-- How many erases a boot makes, by the images in the slots of its set.
use Rattle.std.specs.Prelude.{◌≡◌, ℕ, ◌+◌, ◌*◌, ◌<◌, ◌≤◌, true, Some}
use Rattle.flash_model.specs.Chip.{Chip}
use Rattle.sector_map.specs.declared.layout.SectorMap.{SectorMap}
use Rattle.sector_map.specs.declared.layout.Side.{Side}
use Rattle.sector_map.specs.declared.layout.Side.TheVariants.{Primary, Secondary}
use Rattle.sector_map.specs.Map.{slot_sectors}
use Rattle.common.specs.Masks.{is_member}
use Rattle.set_log.specs.declared.state.RecordKind.{RecordKind}
use Rattle.set_log.specs.declared.state.RecordKind.TheVariants as log
use Rattle.swap_scratch.specs.Used.{sectors_for}
use Rattle.swap_scratch.specs.Swap.{sum_over}
use Rattle.upload.specs.View.{View, view}
use Rattle.machine.specs.Headline.{TakesNone}
use Rattle.flash_contents.specs.Wear.{members, IsResumed, IsSetIn, IsSetOf, IsSettling}
use Rattle.machine.specs.declared.reply.Reply.{Reply}
use Rattle.machine.specs.declared.reply.Reply.TheVariants.{Done, Booted, Reverted, TrialAgain, Refused, Cut}
use Rattle.boot_core.specs.SwapSize.{IsSwapSize}

-- How many sectors of each slot of an image a swap moves, by how many bytes it moves.
abbrev pub sectors_moved : SectorMap → (ℕ → ℕ) → ℕ → ℕ
sectors_moved map sizes i = sectors_for (slot_sectors map i) map.sector_size (Some (sizes i))

-- The trailers of a set say how many bytes its swap moves, by the images that were in its slots.
abbrev pub AreMeasured : View → View → Side → ℕ → Type 0
AreMeasured old new side mask = (i : ℕ) → i < old.images → is_member mask i ≡ true
    → (size : ℕ) × ((new.trailer i side).size ≡ Some size) × IsSwapSize old i size

-- Erases if a swap of a set begins: at most three for each sector that it moves, three for each
-- image, and `more`.
abbrev pub IsFreshWear : SectorMap → Chip → Chip → ℕ → ℕ → Type 0
IsFreshWear map old new mask more = (sizes : ℕ → ℕ)
    → ((i : ℕ) → is_member mask i ≡ true → IsSwapSize (view map old) i (sizes i))
    → new.erases ≤ old.erases + 3 * sum_over mask (sectors_moved map sizes) map.images
    + 3 * members map mask + more

-- The mask is the set that a boot with this reply moved. A boot that is refused, or tries a set
-- again, moved none.
abbrev pub IsSetMoved : ℕ → Reply → Type 0
IsSetMoved mask (Booted table report permanent) = IsSetIn mask report
IsSetMoved mask (Reverted set) = mask ≡ set
IsSetMoved mask (TrialAgain set left) = mask ≡ 0
IsSetMoved mask (Refused fault) = mask ≡ 0
IsSetMoved mask Done = mask ≡ 0
IsSetMoved mask Cut = mask ≡ 0

-- Erases if a swap of the reply's set begins.
abbrev pub IsAfresh : SectorMap → Chip → Chip → ℕ → Reply → Type 0
IsAfresh map old new more reply =
    (mask : ℕ) × IsSetMoved mask reply × IsFreshWear map old new mask more

-- A boot reports that it takes no image, or is refused.
abbrev pub DoesNothing : Reply → Type 0
DoesNothing (Booted table report permanent) = TakesNone report
DoesNothing (Refused fault) = Unit {0}
DoesNothing other = ⊥

-- A boot doesn't report that a set is tried again.
abbrev pub TriesNone : Reply → Type 0
TriesNone (TrialAgain set left) = ⊥
TriesNone other = Unit {0}

-- The wear of a boot that isn't cut, by the kind of the record that it found.
abbrev pub IsWorn : SectorMap → RecordKind → ℕ → Chip → Chip → Reply → Type 0
IsWorn map log.Steady mask old new reply = IsAfresh map old new 3 reply
IsWorn map log.Swap mask old new reply =
    IsResumed map old new Primary mask × IsSetOf mask reply
IsWorn map log.Settle mask old new reply = IsSettling map old new mask × IsSetOf mask reply
IsWorn map log.Trial mask old new reply = IsAfresh map old new 4 reply
IsWorn map log.Back mask old new reply =
    IsResumed map old new Secondary mask × IsSetMoved mask reply
IsWorn map log.BackSettle mask old new reply =
    IsSettling map old new mask × IsSetMoved mask reply
