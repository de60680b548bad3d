-- The status count of a trailer, and the units after it that are known to be erased.
use Rattle.std.proofs.Common.{◌≡◌, ℕ, ◌+◌, ◌*◌, ◌<◌, ◌≤◌, List, Ok, true, arith, sym, ◌∙◌, ap}
use Rattle.flash_model.specs.Chip.{Chip}
use Rattle.flash_model.specs.Units.{are_erased}
use Rattle.sector_map.specs.declared.layout.SectorMap.{SectorMap}
use Rattle.sector_map.specs.declared.layout.Side.{Side}
use Rattle.sector_map.specs.Map.{slot_sectors}
use Rattle.trailer.specs.Fields.{trailer_bytes}
use Rattle.trailer.specs.Status.{are_units_erased, status_unit, status_count_of}
use Rattle.trailer.proofs.StatusUnits.{counts_to, counts_within, each_unit, free_at}
use Rattle.swap_scratch.proofs.Sizes.{used_within}
use Rattle.swap_scratch.proofs.Underway.{IsUnderway}
use Rattle.swap_scratch.specs.Counting.{IsAfterStep, IsKnown}
use Rattle.swap_scratch.specs.Steps.{TakesStep}
use Rattle.swap_scratch.specs.declared.counting.KnownUnits.{KnownUnits}

-- Some erased units after set ones begin at the count.
pub block_known : (map : SectorMap) (chip : Chip) (image : ℕ) (side : Side) (from units : ℕ)
    → are_units_erased (trailer_bytes map chip image side) from units ≡ true
    → from ≤ status_count_of map chip image side → 0 < units → from + units ≤ 3 * slot_sectors map image
    → IsKnown map chip image side (record { count = from; clear = from + units })
block_known map chip image side from units all set some within =
    let bytes = trailer_bytes map chip image side in
    record {
      is = sym (counts_to bytes (3 * slot_sectors map image) from (omega arith) set
          (λ lt. each_unit bytes from units from all (omega arith) (omega arith)));
      ordered = omega arith;
      within = within;
      free = λ j low high. each_unit bytes from units j all low high;
    }

-- The unit at the count is erased if the trailer has it.
pub count_known : (map : SectorMap) (chip : Chip) (image : ℕ) (side : Side) (count clear : ℕ)
    → count ≡ status_count_of map chip image side → count ≤ clear → clear ≤ count + 1
    → clear ≤ 3 * slot_sectors map image → IsKnown map chip image side (record { count = count; clear = clear })
count_known map chip image side count clear is low next within =
    let bytes = trailer_bytes map chip image side in
    record {
      is = is;
      ordered = low;
      within = within;
      free = λ j from to.
          let here : j ≡ status_count_of map chip image side = omega (arith, is) in
          ap (λ k. are_erased (status_unit bytes k)) here
          ∙ free_at bytes (3 * slot_sectors map image) (omega (arith, here, within));
    }

pub count_within : (map : SectorMap) (chip : Chip) (image : ℕ) (side : Side)
    → status_count_of map chip image side ≤ 3 * slot_sectors map image
count_within map chip image side = counts_within (trailer_bytes map chip image side) (3 * slot_sectors map image)

-- After a step the count is the next one, if the unit there is erased or if there is none.
pub next_known : (map : SectorMap) (chip : Chip) (image : ℕ) (side : Side) (known : KnownUnits) (next clear : ℕ)
    → IsAfterStep map chip image side known → next ≡ known.count + 1 → next ≤ clear
    → clear ≤ 3 * slot_sectors map image → (next < 3 * slot_sectors map image → next < known.clear)
    → (next < clear → clear ≤ known.clear)
    → IsKnown map chip image side (record { count = next; clear = clear })
next_known map chip image side known next clear after is low within there free =
    let bytes = trailer_bytes map chip image side in
    record {
      is = sym (counts_to bytes (3 * slot_sectors map image) next (omega arith) (omega (arith, after.past))
          (λ lt. after.free next (omega arith) (there lt)));
      ordered = low;
      within = within;
      free = λ j from to. after.free j (omega arith) (omega (arith, free (omega arith)));
    }

-- A step that was taken leaves the units after its own erased.
pub step_counted : {T : Type 0} (map : SectorMap) (image : ℕ) (side : Side) (sectors : ℕ) (known : KnownUnits)
    (old now new : Chip) (value : T) → IsKnown map now image side known
    → IsUnderway map image side sectors known.count old now → known.count < 3 * sectors
    → TakesStep map image side known.count now new (Ok value) → IsAfterStep map new image side known
step_counted map image side sectors known old now new value was kept left taken = record {
  past = taken.counted;
  below = omega (arith, left, kept.used, used_within map now side image kept.laid_out.is_map);
  within = was.within;
  free = λ j low high.
      ap (λ (unit : List ℕ). are_erased unit)
      (taken.units j (let apart : j ≡ known.count → ⊥ = λ e. omega arith in apart) (omega (arith, was.within)))
      ∙ was.free j (omega arith) high;
}
