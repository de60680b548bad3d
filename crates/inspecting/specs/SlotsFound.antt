-- What `slots` finds on the flash of a device.
use Rattle.std.specs.Prelude.{◌≡◌, ◌≢◌, ◌<◌, ℕ, true, List, Option, Some, None, if◌then◌else◌}
use Rattle.std.specs.List.{AllZip, range_with_len}
use Rattle.flash_model.specs.Chip.{Chip, IsErased}
use Rattle.sector_map.specs.declared.layout.SectorMap.{SectorMap}
use Rattle.sector_map.specs.declared.layout.Side.{Side}
use Rattle.sector_map.specs.declared.layout.Side.TheVariants.{Primary, Secondary}
use Rattle.sector_map.specs.Map.{IsLaidOut, length_of, start_of}
use Rattle.sector_map.specs.Part.{Slot}
use Rattle.common.specs.Masks.{is_member}
use Rattle.image_reading.specs.Fault.{IsFrontFault}
use Rattle.image_reading.specs.Image.{BeginsIntact}
use Rattle.image_reading.specs.Slot.{slot_bytes}
use Rattle.trailer.specs.Standing.{standing_of}
use Rattle.trailer.specs.Status.{status_count_of}
use Rattle.swap_scratch.specs.Used.{steps_of}
use Rattle.swap_scratch.specs.declared.progress.Progress.{Progress}
use Rattle.set_log.specs.declared.state.RecordKind.{RecordKind}
use Rattle.set_log.specs.declared.state.RecordKind.TheVariants.{Steady, Swap, Settle, Trial, Back, BackSettle}
use Rattle.set_log.specs.declared.state.State.{State}
use Rattle.upload.specs.View.{view}
use Rattle.reports.specs.declared.table.Table.{Table}
use Rattle.flash_contents.specs.Reading.{IsFinding, IsReading}
use Rattle.flash_contents.specs.declared.finding.Finding.{Finding}
use Rattle.flash_contents.specs.declared.finding.Finding.TheVariants as finding
use Rattle.flash_contents.specs.declared.finding.Reading.TheVariants.{Read}
use Rattle.decision.specs.Found.{AreRowsHeld, IsFindingAt, IsReadBy}
use Rattle.inspecting.specs.declared.slots_found.ImageSlots.{ImageSlots}
use Rattle.inspecting.specs.declared.slots_found.NextDecision.{NextDecision}
use Rattle.inspecting.specs.declared.slots_found.NextDecision.TheVariants as next
use Rattle.inspecting.specs.declared.slots_found.SlotContent.{SlotContent}
use Rattle.inspecting.specs.declared.slots_found.SlotContent.TheVariants.{Damaged, Erased, Intact}
use Rattle.inspecting.specs.declared.slots_found.SlotsFound.{SlotsFound}

-- A map is laid out on a flash with power, and has this image.
pub record CanLook (map : SectorMap) (image : ℕ) (chip : Chip) : Type 0 where
  pub laid_out : IsLaidOut map chip
  pub there : image < map.images
  pub on : chip.is_on ≡ true

-- All bytes of a slot are erased.
abbrev pub IsErasedSlot : SectorMap → Chip → ℕ → Side → Type 0
IsErasedSlot map chip image side =
    IsErased chip (start_of map (Slot image side)) (length_of map (Slot image side))

-- What a slot begins with: an intact image with this description, nothing, or bytes that fail this
-- check of an image first.
abbrev pub IsContent : SectorMap → Chip → ℕ → Side → SlotContent → Type 0
IsContent map chip image side (Intact description) =
    BeginsIntact (slot_bytes map chip image side) description
IsContent map chip image side Erased = IsErasedSlot map chip image side
IsContent map chip image side (Damaged fault) =
    IsFrontFault (slot_bytes map chip image side) fault × (IsErasedSlot map chip image side → ⊥)

-- The progress of an image's swap, as the trailer of this side counts it.
abbrev pub progress_of : SectorMap → Chip → Side → ℕ → Progress
progress_of map chip side image = record {
  taken = status_count_of map chip image side;
  steps = steps_of map chip side image;
}

-- The side whose trailers count the swap during a record of this kind, if it has a swap.
abbrev pub counting_side : RecordKind → Option Side
counting_side Steady = None
counting_side Swap = Some Primary
counting_side Settle = None
counting_side Trial = None
counting_side Back = Some Secondary
counting_side BackSettle = None

abbrev pub progress_on : SectorMap → Chip → ℕ → Option Side → Option Progress
progress_on map chip image None = None
progress_on map chip image (Some side) = Some (progress_of map chip side image)

-- The progress of an image's swap, if the log says that one is under way.
abbrev pub moved_in : SectorMap → Chip → State → ℕ → Option Progress
moved_in map chip state image =
    if is_member state.mask image
    then progress_on map chip image (counting_side state.kind) else None

-- The slots of an image.
pub record AreSlotsOf (map : SectorMap) (chip : Chip) (state : State) (number : ℕ)
    (slots : ImageSlots) : Type 0 where
  pub image : slots.image ≡ number
  pub primary : IsContent map chip number Primary slots.primary
  pub secondary : IsContent map chip number Secondary slots.secondary
  -- The kind of the pending request, if there is one.
  pub request : slots.request ≡ standing_of map chip number
  pub moved : slots.moved ≡ moved_in map chip state number

-- The slots of the first n images, in order.
abbrev pub AreSlotsUpTo : SectorMap → Chip → State → ℕ → List ImageSlots → Type 0
AreSlotsUpTo map chip state n all =
    AllZip (AreSlotsOf map chip state) (range_with_len 0 n) all

-- What a boot finds if it decides this.
abbrev pub finding_of : NextDecision → Finding
finding_of (next.Decided table report) = finding.Decided table report
finding_of (next.Damaged image slot) = finding.Damaged image
finding_of (next.Invalid table) = finding.Invalid

-- The table of the state that a device at rest holds. On any flash, its rows are those of the images
-- on the flash.
pub record IsRestingTable (map : SectorMap) (chip : Chip) (floors : List ℕ) (table : Table)
    : Type 0 where
  pub of : IsReadBy IsReading map chip 0 floors (Read table)
  pub held : AreRowsHeld (view map chip) 0 table.images.items

-- Why a boot is refused: the bytes of the damaged image's slot, or the table whose running images
-- don't fit each other.
abbrev pub HasCause : SectorMap → Chip → List ℕ → NextDecision → Type 0
HasCause map chip floors (next.Decided table report) = Unit {0}
HasCause map chip floors (next.Damaged image slot) =
    slot.items ≡ slot_bytes map chip image Primary
HasCause map chip floors (next.Invalid table) = IsRestingTable map chip floors table

-- The decision of the next boot of a device at rest. The finding is that of the state that the
-- device holds: the decision over its table, or the lowest running image that can't be read.
pub record IsNextDecision (map : SectorMap) (chip : Chip) (floors : List ℕ)
    (decision : NextDecision) : Type 0 where
  pub of : IsReadBy IsFinding map chip 0 floors (finding_of decision)
  pub front : IsFindingAt (view map chip) 0 (finding_of decision)
  pub cause : HasCause map chip floors decision

-- The decision of the next boot is found exactly if the log says that the device is at rest. Else
-- the boot continues what was begun.
pub record IsDecisionOf (map : SectorMap) (chip : Chip) (state : State)
    (found : Option NextDecision) : Type 0 where
  pub rests : state.kind ≡ Steady
      → (decision : NextDecision) × (found ≡ Some decision)
      × IsNextDecision map chip state.floors decision
  pub goes_on : state.kind ≢ Steady → found ≡ None

-- What is found of a device whose log has this state.
pub record AreFound (map : SectorMap) (chip : Chip) (state : State) (found : SlotsFound)
    : Type 0 where
  pub images : AreSlotsUpTo map chip state map.images found.images.items
  pub decision : IsDecisionOf map chip state found.decision
