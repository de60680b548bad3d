-- How much of a slot is used, by the description of its image.
use Rattle.std.proofs.Common.{◌≡◌, ℕ, ◌+◌, ◌*◌, ◌<◌, ◌≤◌, ◌^◌, List, length, refl, sym, ◌∙◌, ap, arith, length-append}
use Rattle.flash_model.specs.Chip.{Chip}
use Rattle.flash_model.proofs.Frame.{mul_le}
use Rattle.sector_map.specs.declared.layout.SectorMap.{SectorMap}
use Rattle.sector_map.specs.declared.layout.Side.{Side}
use Rattle.sector_map.specs.Part.{Slot}
use Rattle.sector_map.specs.Map.{IsLaidOut, IsMap, slot_sectors}
use Rattle.sector_map.proofs.PartBytes.{length_part}
use Rattle.image_reading.specs.declared.desc.Desc.{Desc}
use Rattle.image_reading.specs.declared.error.ImageError.{ImageError}
use Rattle.image_reading.specs.Fault.{IsFrontFault}
use Rattle.image_reading.specs.Image.{BeginsIntact}
use Rattle.image_reading.specs.Slot.{slot_bytes}
use Rattle.image_reading.proofs.Descriptions.{front-unique, front_has_no_fault}
use Rattle.flash_contents.specs.Starting.{IsHeld}
use Rattle.boot_core.specs.Preparing.{IsSizeIn, IsUsedIn}
use Rattle.boot_core.specs.SwapSize.{IsUsed}
use Rattle.decision.proofs.Described.{described_front}

-- An image is no longer than the bytes that begin with it.
pub described_short : (whole : List ℕ) (d : Desc) → BeginsIntact whole d → d.length ≤ length whole
described_short whole d begins =
    let found = described_front whole d begins in
    let long : length whole ≡ length found.0 + length found.1.0 =
    ap length found.1.1 ∙ length-append found.0 found.1.0 in
    let same : length found.0 ≡ d.length = found.3 in
    omega (arith, long, same)

-- The length of a slot.
slot_long : (map : SectorMap) (chip : Chip) (image : ℕ) (side : Side) → IsLaidOut map chip
    → length (slot_bytes map chip image side) ≡ slot_sectors map image * map.sector_size
slot_long map chip image side laid = length_part map chip (Slot image side) laid

-- An image is no longer than its slot.
pub described_fits : (map : SectorMap) (chip : Chip) (image : ℕ) (side : Side) (d : Desc) → IsLaidOut map chip
    → BeginsIntact (slot_bytes map chip image side) d → d.length ≤ slot_sectors map image * map.sector_size
described_fits map chip image side d laid begins = omega (
  arith,
  described_short (slot_bytes map chip image side) d begins,
  slot_long map chip image side laid,
)

-- A slot has fewer than 2 ^ 32 bytes.
pub slot_small : (map : SectorMap) (image : ℕ) → IsMap map → slot_sectors map image * map.sector_size < 2 ^ 32
slot_small map image fits =
    let few : slot_sectors map image ≤ 5459 = omega (arith, fits.trailers image, fits.sector.most) in
    let all : slot_sectors map image * map.sector_size ≤ 5459 * map.sector_size =
    mul_le (slot_sectors map image) 5459 map.sector_size few in
    omega (arith, all, fits.sector.most)

-- A slot has at least one byte.
pub slot_some : (map : SectorMap) (image : ℕ) → IsMap map → image < map.images
    → 0 < slot_sectors map image * map.sector_size
slot_some map image fits there =
    let some : 1 ≤ slot_sectors map image = fits.counts.some image there in
    let all : 1 * map.sector_size ≤ slot_sectors map image * map.sector_size =
    mul_le 1 (slot_sectors map image) map.sector_size some in
    omega (arith, all, fits.sector.least)

-- A slot that begins with an intact image uses the length of that image.
described_used : (slot : List ℕ) (d : Desc) → BeginsIntact slot d → IsUsed slot d.length
described_used slot d begins = record {
  intact = λ other also. ap (λ (e : Desc). e.length) (front-unique slot d other begins also);
  damaged = λ none. absurd (none d begins);
}

-- A slot that begins with no intact image uses all its bytes.
fault_used : (slot : List ℕ) (fault : ImageError) (n : ℕ) → IsFrontFault slot fault → length slot ≡ n
    → IsUsed slot n
fault_used slot fault n failed long = record {
  intact = λ d begins. absurd (front_has_no_fault slot d fault begins failed);
  damaged = λ none. sym long;
}

-- A slot that begins with an intact image has the size of that image.
pub described_size : (map : SectorMap) (chip : Chip) (image : ℕ) (side : Side) (d : Desc) → IsLaidOut map chip
    → BeginsIntact (slot_bytes map chip image side) d → 0 < d.length
    → IsSizeIn map image (IsUsedIn map image side) chip d.length
described_size map chip image side d laid begins some = record {
  exact = described_used (slot_bytes map chip image side) d begins;
  some = some;
  most = described_fits map chip image side d laid begins;
}

-- A slot that begins with no intact image has its own size.
pub fault_size : (map : SectorMap) (chip : Chip) (image : ℕ) (side : Side) (fault : ImageError) (n : ℕ)
    → IsLaidOut map chip → IsFrontFault (slot_bytes map chip image side) fault
    → n ≡ slot_sectors map image * map.sector_size → 0 < n → IsSizeIn map image (IsUsedIn map image side) chip n
fault_size map chip image side fault n laid failed long some = record {
  exact = fault_used (slot_bytes map chip image side) fault n failed (slot_long map chip image side laid ∙ sym long);
  some = some;
  most = omega (arith, long);
}

-- A slot that holds an image begins with it.
pub held_begins : (slot : List ℕ) → IsHeld slot → (d : Desc) × BeginsIntact slot d
held_begins slot held =
    let there = held.1.image held.0 refl in
    (there.1.0, (held.0, there.0.0, there.0.1, there.1.1))
