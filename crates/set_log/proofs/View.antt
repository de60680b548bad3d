-- The log as a flash of its own: its contents are those of the flash at the log's addresses.
use Rattle.std.proofs.Common.{◌≡◌, ◌↔◌, ℕ, ◌+◌, ◌-◌, ◌*◌, ◌/◌, ◌%◌, ◌<◌, ◌≤◌, Bool, true, false, not, IsTrue, List, length, slice_index, slice_range, arith, refl, sym, ◌∙◌, ap, subst, inl, inr, ⊎_elim}
use Rattle.std.proofs.lemmas.Bool.{cases_lt}
use Rattle.std.proofs.lemmas.List.{get_or_past}
use Rattle.flash_model.specs.Chip.{Chip, IsErased, Reads, SameOutside, size_of}
use Rattle.flash_model.specs.Units.{IsSet}
use Rattle.flash_model.proofs.Ranges.{range_of_reads}
use Rattle.flash_model.proofs.Units.{aligned}
use Rattle.sector_map.specs.declared.layout.SectorMap.{SectorMap}
use Rattle.sector_map.specs.Part.{Log, only}
use Rattle.sector_map.specs.Map.{first_of, start_of, length_of, place_of_record, closing_unit, IsMap, IsLaidOut, Keeps}
use Rattle.sector_map.proofs.LogPlaces.{places_fill, place_in_log, unit_in_log, unit_fits_log}
use Rattle.sector_map.proofs.Parts.{laid_out_kept}
use Rattle.sector_map.proofs.PartBytes.{length_part, part_at, part_kept_at, part_reads, part_erased_at, part_inside, keeps_write}
use Rattle.flash_model.proofs.Frame.{product_le}
use Rattle.set_log.specs.Ring.{reads_erased, places_in, is_closed}
use Rattle.set_log.specs.Log.{log_bytes, log_of}
use Rattle.set_log.proofs.Blank.{reads_erased_of, erased_of_reads, not_true}

-- The offset in the log of an address, from which n bytes are inside the log.
pub record IsAt (map : SectorMap) (at o n : ℕ) : Type 0 where
  pub place : at ≡ start_of map Log + o
  pub inside : o + n ≤ length_of map Log

-- The place of a record, with its gate.
pub at_place : (map : SectorMap) (at sector place : ℕ) → IsMap map → sector < 3
    → place < places_in map.sector_size → at ≡ place_of_record map sector place
    → IsAt map at (sector * map.sector_size + 64 * place) 64
at_place map at sector place fits lt below is = record {
  place = is ∙ place_in_log map sector place;
  inside = omega (arith, product_le sector 3 map.sector_size lt, places_fill map fits);
}

-- The body of a place.
pub at_body : (map : SectorMap) (at sector place : ℕ) → IsMap map → sector < 3
    → place < places_in map.sector_size → at ≡ place_of_record map sector place
    → IsAt map at (sector * map.sector_size + 64 * place) 56
at_body map at sector place fits lt below is =
    let whole = at_place map at sector place fits lt below is in
    record { place = whole.place; inside = omega (arith, whole.inside) }

-- The gate of a place.
pub at_gate : (map : SectorMap) (at sector place : ℕ) → IsMap map → sector < 3
    → place < places_in map.sector_size → at ≡ place_of_record map sector place + 56
    → IsAt map at (sector * map.sector_size + 64 * place + 56) 8
at_gate map at sector place fits lt below is =
    let whole = at_place map (place_of_record map sector place) sector place fits lt below refl in
    record { place = omega (arith, is, whole.place); inside = omega (arith, whole.inside) }

-- The closing unit of a sector.
pub at_closing : (map : SectorMap) (at sector : ℕ) → IsMap map → sector < 3 → at ≡ closing_unit map sector
    → IsAt map at (sector * map.sector_size + (map.sector_size - 8)) 8
at_closing map at sector fits lt is = record {
  place = is ∙ unit_in_log map sector;
  inside = unit_fits_log map sector fits lt;
}

-- An address in the log is inside the flash.
pub at_inside : (map : SectorMap) (chip : Chip) (at o n : ℕ) → IsLaidOut map chip → IsAt map at o n
    → at + n ≤ size_of chip
at_inside map chip at o n laid here =
    omega (arith, here.place, here.inside, part_inside map chip Log laid (omega arith))

-- The address of a place is that of a whole unit.
pub place_aligned : (map : SectorMap) (sector place : ℕ) → IsMap map
    → place_of_record map sector place % 8 ≡ 0
place_aligned map sector place fits =
    let units : 8 * (map.sector_size / 8) ≡ map.sector_size = omega (arith, fits.sector.blocks) in
    omega (arith, aligned (first_of map Log + sector) map.sector_size units)

pub unit_aligned : (map : SectorMap) (sector : ℕ) → IsMap map → closing_unit map sector % 8 ≡ 0
unit_aligned map sector fits =
    let units : 8 * (map.sector_size / 8) ≡ map.sector_size = omega (arith, fits.sector.blocks) in
    omega (arith, aligned (first_of map Log + sector) map.sector_size units, fits.sector.least)

-- Bytes that were read from the flash are the bytes of the log at that offset.
pub log_reads : (map : SectorMap) (chip : Chip) (at o n : ℕ) (bytes : List ℕ) → Reads chip at bytes
    → IsAt map at o n → length bytes ≡ n → Reads (log_of map chip) o bytes
log_reads map chip at o n bytes reads here long = record {
  each = λ k i is lt.
      ap (λ j. slice_index (log_bytes map chip) j) is
      ∙ part_reads map chip Log o at i bytes reads here.place (omega (arith, here.inside, long)) lt;
}

pub log_range : (map : SectorMap) (chip : Chip) (at o n : ℕ) (bytes : List ℕ) → IsLaidOut map chip
    → Reads chip at bytes → IsAt map at o n → length bytes ≡ n
    → bytes ≡ slice_range (log_bytes map chip) o (o + n)
log_range map chip at o n bytes laid reads here long =
    subst (λ m. bytes ≡ slice_range (log_bytes map chip) o (o + m)) long
    (sym (range_of_reads (log_of map chip) o bytes (log_reads map chip at o n bytes reads here long)
    (omega (arith, here.inside, long, length_part map chip Log laid))))

-- Bytes that are erased in the flash are erased in the log.
pub log_erased : (map : SectorMap) (chip : Chip) (at o n : ℕ) → IsErased chip at n → IsAt map at o n
    → IsErased (log_of map chip) o n
log_erased map chip at o n erased here = record {
  each = λ k low high. part_erased_at map chip Log at n k erased (omega (arith, here.inside))
      (omega (arith, here.place)) (omega (arith, here.place));
}

-- Bytes that are erased in the log are erased in the flash.
pub flash_erased : (map : SectorMap) (chip : Chip) (at o n : ℕ) → IsErased (log_of map chip) o n
    → IsAt map at o n → IsErased chip at n
flash_erased map chip at o n erased here = record {
  each = λ k low high.
      let there : start_of map Log + (o + (k - at)) ≡ k = omega (arith, here.place) in
      ap (λ j. slice_index chip.bytes j) (sym there)
      ∙ sym (part_at map chip Log (o + (k - at)) (omega (arith, here.inside)))
      ∙ erased.each (o + (k - at)) (omega arith) (omega arith);
}

pub flash_erased_of : (map : SectorMap) (chip : Chip) (at o n : ℕ) → IsLaidOut map chip
    → reads_erased (log_bytes map chip) o n ≡ true → IsAt map at o n → IsErased chip at n
flash_erased_of map chip at o n laid reads here = flash_erased map chip at o n
    (erased_of_reads (log_of map chip) o n reads (omega (arith, here.inside, length_part map chip Log laid))) here

-- A test whether bytes of the flash are erased also holds for the log.
pub log_tells : (map : SectorMap) (chip : Chip) (at o n : ℕ) (told : Bool) → IsLaidOut map chip
    → (IsTrue told ↔ IsErased chip at n) → IsAt map at o n → told ≡ reads_erased (log_bytes map chip) o n
log_tells map chip at o n true laid tells here =
    sym (reads_erased_of (log_of map chip) o n (log_erased map chip at o n (tells.0 refl) here))
log_tells map chip at o n false laid tells here =
    sym (not_true (reads_erased (log_bytes map chip) o n) (λ all.
    let wrong : false ≡ true = tells.1 (flash_erased_of map chip at o n laid all here) in cc wrong))

-- What is told of the gate of a place.
pub gate_tells : (map : SectorMap) (chip : Chip) (at sector place : ℕ) (told : Bool) → IsLaidOut map chip → sector < 3
    → place < places_in map.sector_size → at ≡ place_of_record map sector place + 56
    → (IsTrue told ↔ IsErased chip at 8)
    → told ≡ reads_erased (log_bytes map chip) (sector * map.sector_size + 64 * place + 56) 8
gate_tells map chip at sector place told laid lt below is tells =
    log_tells map chip at _ 8 told laid tells (at_gate map at sector place laid.is_map lt below is)

pub log_set : (map : SectorMap) (chip : Chip) (at o : ℕ) → IsLaidOut map chip → IsSet chip at
    → IsAt map at o 8 → reads_erased (log_bytes map chip) o 8 ≡ false
log_set map chip at o laid set here = not_true (reads_erased (log_bytes map chip) o 8)
    (λ all. set.not_erased (flash_erased_of map chip at o 8 laid all here))

-- A write in the log keeps all other parts.
pub log_alone : (map : SectorMap) (old new : Chip) (at o n : ℕ) → IsLaidOut map old → SameOutside at n old new
    → IsAt map at o n → Keeps map (only Log) old new
log_alone map old new at o n laid same here = keeps_write map Log o at n old new laid same here.place here.inside

-- A write in the log keeps the rest of the log.
pub log_same : (map : SectorMap) (old new : Chip) (at o n : ℕ) → IsLaidOut map old → SameOutside at n old new
    → IsAt map at o n → SameOutside o n (log_of map old) (log_of map new)
log_same map old new at o n laid same here =
    let still = laid_out_kept map (only Log) old new laid (log_alone map old new at o n laid same here) in
    let first = length_part map old Log laid in
    let second = length_part map new Log still in
    record {
      sector_size = refl;
      sectors = refl;
      fixed = same.fixed;
      size = second ∙ sym first;
      before = λ k low. part_kept_at map Log at n k old new same (omega (arith, here.inside))
          (inl (omega (arith, here.place)));
      after = λ k high. ⊎_elim
          (λ (within : k < length_of map Log). part_kept_at map Log at n k old new same within
          (inr (omega (arith, here.place))))
          (λ (past : length_of map Log ≤ k).
          get_or_past (log_bytes map new) k 0 (omega (arith, second))
          ∙ sym (get_or_past (log_bytes map old) k 0 (omega (arith, first))))
          (cases_lt k (length_of map Log));
    }

-- A sector of the log, by the flash's length of a sector.
pub at_sector : (map : SectorMap) (chip : Chip) (sector there : ℕ) → IsLaidOut map chip → sector < 3
    → there ≡ first_of map Log + sector
    → IsAt map (there * chip.sector_size) (sector * map.sector_size) chip.sector_size
at_sector map chip sector there laid lt is =
    let start : there * chip.sector_size ≡ (first_of map Log + sector) * map.sector_size =
    ap (λ t. t * chip.sector_size) is ∙ ap (λ e. (first_of map Log + sector) * e) laid.sector_size in
    let split : (first_of map Log + sector) * map.sector_size
    ≡ first_of map Log * map.sector_size + sector * map.sector_size = grind arith in
    record {
      place = start ∙ split;
      inside = omega (arith, product_le sector 3 map.sector_size lt, laid.sector_size);
    }

not_false : (b : Bool) → not b ≡ false → b ≡ true
not_false true is = refl
not_false false is = cc

-- The closing unit of an open sector is erased.
pub open_reads : (e : ℕ) (log : List ℕ) (sector : ℕ) → is_closed e log sector ≡ false
    → reads_erased log (sector * e + (e - 8)) 8 ≡ true
unfolding is_closed
open_reads e log sector is = not_false _ is

-- The closing unit of a closed sector isn't erased.
pub closed_by : (e : ℕ) (log : List ℕ) (sector : ℕ) → reads_erased log (sector * e + (e - 8)) 8 ≡ false
    → is_closed e log sector ≡ true
unfolding is_closed
closed_by e log sector is = ap not is

-- A place that reads as erased is erased.
pub place_reads : (map : SectorMap) (chip : Chip) (sector place : ℕ) → IsLaidOut map chip → sector < 3
    → place < places_in map.sector_size
    → reads_erased (log_bytes map chip) (sector * map.sector_size + 64 * place) 64 ≡ true
    → IsErased (log_of map chip) (sector * map.sector_size + 64 * place) 64
place_reads map chip sector place laid lt below reads =
    let here = at_place map (place_of_record map sector place) sector place laid.is_map lt below refl in
    erased_of_reads (log_of map chip) _ 64 reads (omega (arith, here.inside, length_part map chip Log laid))
