-- Lemmas about what each step of a withdrawal leaves of the request.
use Rattle.std.proofs.Common.{◌≡◌, ◌⊎◌, ℕ, ◌+◌, ◌*◌, ◌<◌, ◌≤◌, Bool, true, false, not, arith, sym, ◌∙◌, ap, subst, refl, slice_index, inl, inr, ⊎_elim, List, Some, None, if◌then◌else◌}
use Rattle.std.proofs.lemmas.Bool.{cases_lt}
use Rattle.std.proofs.lemmas.List.{get_or_past}
use Rattle.flash_model.specs.Chip.{Chip, IsErased, SameOutside}
use Rattle.sector_map.specs.declared.layout.SectorMap.{SectorMap}
use Rattle.sector_map.specs.declared.layout.Side.{Side}
use Rattle.sector_map.specs.declared.layout.Side.TheVariants.{Secondary}
use Rattle.sector_map.specs.Part.{Slot, TrailerOf, only, incoming_of}
use Rattle.sector_map.specs.Map.{first_of, length_of, start_of, Keeps, IsLaidOut, part_of}
use Rattle.sector_map.proofs.PartBytes.{length_part, part_kept_at}
use Rattle.sector_map.proofs.Parts.{keeps_trans, keeps_wider, laid_out_kept}
use Rattle.sector_map.proofs.Touched.{slot_of_incoming, trailer_of_incoming}
use Rattle.trailer.specs.declared.kinds.Magic.TheVariants.{Unset}
use Rattle.common.specs.declared.kind.Kind.{Kind}
use Rattle.flash_model.specs.Units.{are_erased}
use Rattle.trailer.specs.Fields.{Fields, fields_at, trailer_of, trailer_bytes}
use Rattle.trailer.specs.Standing.{KeepsBehindFirst, is_good, first_is_set, first_sector, standing_kind, standing_of, incoming_slot}
use Rattle.trailer.proofs.Places.{part_alone, some_slot, sector_of_part}
use Rattle.trailer.proofs.Erased.{range_erased, erased_fields_at}
use Rattle.trailer.proofs.OwnFields.{fields_kept}
use Rattle.trailer.proofs.FieldUnits.{either_withdrawn}
use Rattle.trailer.proofs.Gone.{stands_with, gone_withdrawn, gone_without_front, none_whatever_front}

-- The first unit of a slot is erased if its first sector is.
pub front_erased : (map : SectorMap) (chip : Chip) (image sector e : ℕ) (side : Side) → IsErased chip (sector * e) e
    → IsLaidOut map chip → image < map.images
    → sector ≡ first_of map (Slot image side) → e ≡ map.sector_size → first_is_set (part_of map chip (Slot image side))
    ≡ false
front_erased map chip image sector e side erased laid lt is e_is =
    let start : sector * e ≡ start_of map (Slot image side) = ap (λ s. s * e) is ∙ ap
    (λ x. first_of map (Slot image side) * x) e_is in
    ap not (range_erased map chip (Slot image side) (sector * e) e 0 8 erased laid
    (omega (
      arith,
      sector_of_part map (Slot image side) (some_slot map image side laid.is_map lt),
      laid.is_map.trailers 0,
    )) (omega (arith, start)) (omega (arith, start, laid.is_map.trailers 0)))

-- Each byte of a slot's first sector is erased if the sector is erased on the flash.
pub sector_erased : (map : SectorMap) (chip : Chip) (image sector e : ℕ) (side : Side) → IsErased chip (sector * e) e
    → IsLaidOut map chip → image < map.images → sector ≡ first_of map (Slot image side) → e ≡ map.sector_size
    → are_erased (first_sector map.sector_size (part_of map chip (Slot image side))) ≡ true
sector_erased map chip image sector e side erased laid lt is e_is =
    let start : sector * e ≡ start_of map (Slot image side) = ap (λ s. s * e) is ∙ ap
    (λ x. first_of map (Slot image side) * x) e_is in
    range_erased map chip (Slot image side) (sector * e) e 0 map.sector_size erased laid
    (omega (arith, sector_of_part map (Slot image side) (some_slot map image side laid.is_map lt)))
    (omega (arith, start)) (omega (arith, start, e_is))

-- After a write of the withdrawn unit the fields are as they were, or no request is pending.
pub taken_back : (map : SectorMap) (old new : Chip) (image : ℕ) (kind : Kind) → standing_of map old image ≡ Some kind
    → fields_at map new image Secondary ≡ record (fields_at map old image Secondary)
    { withdrawn = (fields_at map new image Secondary).withdrawn }
    → (fields_at map new image Secondary ≡ fields_at map old image Secondary) ⊎ (standing_of map new image ≡ None)
taken_back map old new image kind stands own =
    let was = stands_with (trailer_of (fields_at map old image Secondary)) (first_is_set (incoming_slot map old image))
    kind stands in
    ⊎_elim (λ (same : fields_at map new image Secondary ≡ fields_at map old image Secondary). inl same)
    (λ (set : (fields_at map new image Secondary).withdrawn ≡ true). inr (gone_withdrawn map new image set))
    (either_withdrawn (fields_at map old image Secondary) (fields_at map new image Secondary) own was.kept)

pub kept_when_standing : (map : SectorMap) (chip : Chip) (image : ℕ) (kind : Kind)
    → standing_of map chip image ≡ Some kind → (fields_at map chip image Secondary).withdrawn ≡ false
kept_when_standing map chip image kind stands = (stands_with (trailer_of (fields_at map chip image Secondary))
    (first_is_set (incoming_slot map chip image)) kind stands).kept

-- A trailer with a good magic isn't erased.
good_not_erased : (map : SectorMap) (chip : Chip) (image : ℕ) → IsLaidOut map chip → image < map.images
    → is_good (fields_at map chip image Secondary).magic ≡ true
    → are_erased (trailer_bytes map chip image Secondary) ≡ false
good_not_erased map chip image laid lt good = by (are_erased (trailer_bytes map chip image Secondary)) refl
  where
    by : (all : Bool) → are_erased (trailer_bytes map chip image Secondary) ≡ all → are_erased
        (trailer_bytes map chip image Secondary) ≡ false
    by true e =
        let wrong : is_good Unset ≡ true = ap (λ (f : Fields). is_good f.magic)
        (sym (erased_fields_at map chip image Secondary e laid lt)) ∙ good in cc
    by false e = e

pub still_written : (map : SectorMap) (old new : Chip) (image : ℕ) (kind : Kind) → standing_of map old image ≡ Some kind
    → fields_at map new image Secondary ≡ record (fields_at map old image Secondary)
    { withdrawn = (fields_at map new image Secondary).withdrawn }
    → IsLaidOut map old → Keeps map (only (TrailerOf image Secondary)) old new → image < map.images
    → are_erased (trailer_bytes map new image Secondary) ≡ are_erased (trailer_bytes map old image Secondary)
still_written map old new image kind stands own laid keeps lt =
    let was = stands_with (trailer_of (fields_at map old image Secondary)) (first_is_set (incoming_slot map old image))
    kind stands in
    good_not_erased map new image (laid_out_kept map _ old new laid keeps) lt
    (ap (λ (f : Fields). is_good f.magic) own ∙ was.good)
    ∙ sym (good_not_erased map old image laid lt was.good)

-- A withdrawal leaves the slot unchanged if the slot's first unit isn't set.
pub unset_kept : (map : SectorMap) (old first second : Chip) (image : ℕ)
    → Keeps map (only (TrailerOf image Secondary)) old first
    → (first_is_set (incoming_slot map first image) ≡ false → second ≡ first)
    → first_is_set (incoming_slot map old image) ≡ false → incoming_slot map second image ≡ incoming_slot map old image
unset_kept map old first second image keeps idle unset =
    let slot = keeps.parts (Slot image Secondary) refl in
    ap (λ chip. incoming_slot map chip image) (idle (ap (λ (xs : List ℕ). first_is_set xs) slot ∙ unset)) ∙ slot

-- A withdrawal erases the slot's first sector if the slot's first unit is set.
pub first_gone : (map : SectorMap) (old first second new : Chip) (image : ℕ)
    → Keeps map (only (TrailerOf image Secondary)) old first → Keeps map (only (TrailerOf image Secondary)) second new
    → (first_is_set (incoming_slot map first image) ≡ true
    → are_erased (first_sector map.sector_size (incoming_slot map second image)) ≡ true)
    → first_is_set (incoming_slot map old image) ≡ true
    → are_erased (first_sector map.sector_size (incoming_slot map new image)) ≡ true
first_gone map old first second new image a b erased set =
    ap (λ (xs : List ℕ). are_erased (first_sector map.sector_size xs)) (b.parts (Slot image Secondary) refl)
    ∙ erased (ap (λ (xs : List ℕ). first_is_set xs) (a.parts (Slot image Secondary) refl) ∙ set)

-- After the trailer was written, slot and fields are as they were, or no request is pending.
pub slot_or_none : (map : SectorMap) (old new : Chip) (image : ℕ)
    → incoming_slot map new image ≡ incoming_slot map old image
    → (fields_at map new image Secondary ≡ fields_at map old image Secondary) ⊎ (standing_of map new image ≡ None)
    → ((incoming_slot map new image ≡ incoming_slot map old image)
    × (fields_at map new image Secondary ≡ fields_at map old image Secondary)) ⊎ (standing_of map new image ≡ None)
slot_or_none map old new image slot = ⊎_elim
    (λ (same : fields_at map new image Secondary ≡ fields_at map old image Secondary). inl (slot, same))
    (λ (none : standing_of map new image ≡ None). inr none)

-- If no request is pending, none is after the slot's first sector was erased or left.
pub none_after_front : (map : SectorMap) (old new : Chip) (image : ℕ) → standing_of map old image ≡ None
    → Keeps map (only (Slot image Secondary)) old new
    → (first_is_set (incoming_slot map old image) ≡ false → new ≡ old) → standing_of map new image ≡ None
none_after_front map old new image none keeps idle = by (first_is_set (incoming_slot map old image)) refl
  where
    by : (front : Bool) → first_is_set (incoming_slot map old image) ≡ front → standing_of map new image ≡ None
    by false e = ap (λ chip. standing_of map chip image) (idle e) ∙ none
    by true e =
        let same : fields_at map new image Secondary ≡ fields_at map old image Secondary = fields_kept map _ old new
        image Secondary keeps refl in
        let set : standing_kind (trailer_of (fields_at map old image Secondary)) true ≡ None = ap
        (λ b. standing_kind (trailer_of (fields_at map old image Secondary)) b) (sym e) ∙ none in
        ap (λ (f : Fields). standing_kind (trailer_of f) (first_is_set (incoming_slot map new image))) same
        ∙ none_whatever_front (trailer_of (fields_at map old image Secondary))
        (first_is_set (incoming_slot map new image)) set

-- If the slot's first unit is erased, no request is pending, whatever happens to the trailer.
pub front_after_trailer : (map : SectorMap) (old new : Chip) (image : ℕ)
    → first_is_set (incoming_slot map old image) ≡ false → Keeps map (only (TrailerOf image Secondary)) old new
    → first_is_set (incoming_slot map new image) ≡ false
front_after_trailer map old new image front keeps = ap (λ (slot : List ℕ). first_is_set slot)
    (keeps.parts (Slot image Secondary) refl) ∙ front

pub none_after_trailer : (map : SectorMap) (old new : Chip) (image : ℕ)
    → first_is_set (incoming_slot map old image) ≡ false → Keeps map (only (TrailerOf image Secondary)) old new
    → standing_of map new image ≡ None
none_after_trailer map old new image front keeps = gone_without_front map new image
    (front_after_trailer map old new image front keeps)

-- Steps in turn touch only the secondary slot and its trailer.
pub trailer_then_slot : (map : SectorMap) (old mid new : Chip) (image : ℕ)
    → Keeps map (only (TrailerOf image Secondary)) old mid → Keeps map (only (Slot image Secondary)) mid new
    → Keeps map (incoming_of image) old new
trailer_then_slot map old mid new image a b = keeps_trans map (incoming_of image) old mid new
    (keeps_wider map _ (incoming_of image) old mid (trailer_of_incoming image) a)
    (keeps_wider map _ (incoming_of image) mid new (slot_of_incoming image) b)

pub incoming_then_trailer : (map : SectorMap) (old mid new : Chip) (image : ℕ) → Keeps map (incoming_of image) old mid
    → Keeps map (only (TrailerOf image Secondary)) mid new → Keeps map (incoming_of image) old new
incoming_then_trailer map old mid new image a b = keeps_trans map (incoming_of image) old mid new a
    (keeps_wider map _ (incoming_of image) mid new (trailer_of_incoming image) b)

pub trailer_of_withdrawal : (map : SectorMap) (old new : Chip) (image : ℕ)
    → Keeps map (only (TrailerOf image Secondary)) old new → Keeps map (incoming_of image) old new
trailer_of_withdrawal map old new image a = keeps_wider map _ (incoming_of image) old new (trailer_of_incoming image) a

-- An erase of a slot's first sector leaves the rest of the slot unchanged.
pub rest_of_erase : (map : SectorMap) (old new : Chip) (image sector : ℕ) (side : Side)
    → SameOutside (sector * old.sector_size) old.sector_size old new → IsLaidOut map old → image < map.images
    → sector ≡ first_of map (Slot image side) → KeepsBehindFirst map image side old new
rest_of_erase map old new image sector side same laid lt is = record {
  each = λ k high. ⊎_elim
      (λ (within : k < length_of map (Slot image side)). part_kept_at map (Slot image side) _ _ k old new there within
      (inr (omega arith)))
      (λ (past : length_of map (Slot image side) ≤ k).
      get_or_past (part_of map new (Slot image side)) k 0
      (omega (arith, past, length_part map new (Slot image side) still))
      ∙ sym (get_or_past (part_of map old (Slot image side)) k 0
      (omega (arith, past, length_part map old (Slot image side) laid))))
      (cases_lt k (length_of map (Slot image side)));
}
  where
    there : SameOutside (start_of map (Slot image side)) map.sector_size old new
    there = subst (λ e. SameOutside (first_of map (Slot image side) * e) e old new) laid.sector_size
        (subst (λ s. SameOutside (s * old.sector_size) old.sector_size old new) is same)

    still : IsLaidOut map new
    still =
        let some = some_slot map image side laid.is_map lt in
        laid_out_kept map _ old new laid (part_alone map old new (Slot image side) sector same laid some is)

pub rest_of_trailer : (map : SectorMap) (old new : Chip) (image : ℕ)
    → Keeps map (only (TrailerOf image Secondary)) old new → KeepsBehindFirst map image Secondary old new
rest_of_trailer map old new image keeps = record {
  each = λ k high. ap (λ (bytes : List ℕ). slice_index bytes k) (keeps.parts (Slot image Secondary) refl);
}

-- Two steps in turn leave the rest of the slot unchanged if each of them does.
pub rest_trans : (map : SectorMap) (image : ℕ) (side : Side) (old mid new : Chip)
    → KeepsBehindFirst map image side old mid → KeepsBehindFirst map image side mid new
    → KeepsBehindFirst map image side old new
rest_trans map image side old mid new a b = record { each = λ k high. b.each k high ∙ a.each k high }

-- The first two steps of a withdrawal change nothing if the slot's first unit is erased.
pub front_idle : (map : SectorMap) (old first second : Chip) (image : ℕ)
    → (standing_of map old image ≡ None → first ≡ old)
    → (first_is_set (incoming_slot map first image) ≡ false → second ≡ first)
    → first_is_set (incoming_slot map old image) ≡ false → second ≡ old
front_idle map old first second image one two front =
    let a = one (gone_without_front map old image front) in
    two (ap (λ chip. first_is_set (incoming_slot map chip image)) a ∙ front) ∙ a

-- A withdrawal changes nothing if the trailer is erased too.
pub nothing_left : (map : SectorMap) (old first second new : Chip) (image : ℕ)
    → (standing_of map old image ≡ None → first ≡ old)
    → (first_is_set (incoming_slot map first image) ≡ false → second ≡ first)
    → (are_erased (trailer_bytes map second image Secondary) ≡ true → new ≡ second)
    → first_is_set (incoming_slot map old image) ≡ false → are_erased (trailer_bytes map old image Secondary) ≡ true
    → new ≡ old
nothing_left map old first second new image one two three front erased =
    let before = front_idle map old first second image one two front in
    three (ap (λ chip. are_erased (trailer_bytes map chip image Secondary)) before ∙ erased) ∙ before

-- The number of erases of a withdrawal.
pub erases_of : (map : SectorMap) (old first second new : Chip) (image : ℕ)
    → Keeps map (only (TrailerOf image Secondary)) old first → Keeps map (only (Slot image Secondary)) first second
    → are_erased (trailer_bytes map first image Secondary) ≡ are_erased (trailer_bytes map old image Secondary)
    → first.erases ≡ old.erases
    → second.erases ≡ first.erases + (if first_is_set (incoming_slot map first image) then 1 else 0)
    → new.erases ≡ second.erases + (if are_erased (trailer_bytes map second image Secondary) then 0 else 1)
    → new.erases ≡ old.erases + (if first_is_set (incoming_slot map old image) then 1 else 0) +
    (if are_erased (trailer_bytes map old image Secondary) then 0 else 1)
erases_of map old first second new image a b written one two three =
    let slot = ap (λ (xs : List ℕ). if first_is_set xs then 1 else 0) (a.parts (Slot image Secondary) refl) in
    let trailer = ap (λ (xs : List ℕ). if are_erased xs then 0 else 1) (b.parts (TrailerOf image Secondary) refl) ∙ ap
    (λ all. if all then 0 else 1) written in
    three ∙ ap (λ n. second.erases + n) trailer ∙ ap (λ n. n +
    (if are_erased (trailer_bytes map old image Secondary) then 0 else 1))
    (two ∙ ap (λ n. n + (if first_is_set (incoming_slot map first image) then 1 else 0)) one ∙ ap
    (λ n. old.erases + n) slot)
