-- Writing and erasing a secondary slot.
use Rattle.std.proofs.Common.{◌≡◌, ℕ, zero, suc, ◌+◌, ◌-◌, ◌*◌, ◌/◌, ◌%◌, ◌<◌, ◌≤◌, List, [], ◌∷◌, ◌++◌, length, take, drop, replicate, slice_index, arith, refl, sym, ◌∙◌, ap, subst, append_assoc, length-append, inl, false, not}
use Rattle.std.proofs.lemmas.List.{length-replicate, get_or-replicate, get_or-append_right, drop-replicate, take-replicate}
use Rattle.std.proofs.Math.Seq.{take-append_seam, drop-append_seam}
use Rattle.std.proofs.lemmas.List.{drop-drop}
use Rattle.flash_model.specs.Chip.{Chip, IsErased, Reads, SameOutside}
use Rattle.flash_model.proofs.Erased.{erased_kept, erased_joined}
use Rattle.flash_model.proofs.Units.{aligned}
use Rattle.sector_map.specs.declared.layout.SectorMap.{SectorMap}
use Rattle.sector_map.specs.declared.layout.Side.TheVariants.{Secondary}
use Rattle.sector_map.specs.Part.{Slot}
use Rattle.sector_map.specs.Map.{IsIn, IsLaidOut, IsMap, first_of, length_of, part_of, sectors_of, slot_sectors, start_of}
use Rattle.sector_map.proofs.Places.{units_of, within}
use Rattle.sector_map.proofs.PartBytes.{end_of, length_part, part_at}
use Rattle.sector_map.proofs.Products.{mul_le}
use Rattle.flash_model.proofs.Frame.{product_le}
use Rattle.trailer.specs.Standing.{first_is_set}
use Rattle.trailer.proofs.Erased.{range_erased}
use Rattle.trailer.proofs.Places.{sector_of_part, some_slot}
use Rattle.sector_map.proofs.PartLists.{part_written, part_erased}
use Rattle.upload.specs.Sessions.{IsWritten}

abbrev slot_of : SectorMap → Chip → ℕ → List ℕ
slot_of map chip image = part_of map chip (Slot image Secondary)

-- The number of bytes after the written ones.
left_is : (slot front : List ℕ) (was : IsWritten slot front) → length slot ≡ length front + was.left
left_is slot front was = ap length was.is ∙ length-append front (replicate was.left 0xff)
    ∙ ap (λ n. length front + n) (length-replicate was.left 0xff)

pub behind_at : (slot front : List ℕ) (was : IsWritten slot front) (o : ℕ) → length front ≤ o → o < length slot
    → slice_index slot o ≡ 0xff
behind_at slot front was o le lt = ap (λ l. slice_index l o) was.is
    ∙ get_or-append_right front (replicate was.left 0xff) (length front) o 0 refl le
    ∙ get_or-replicate was.left (o - length front) 0xff 0 (omega (arith, left_is slot front was))

-- A slot is erased after its written bytes.
pub behind_erased : (map : SectorMap) (chip : Chip) (image at n : ℕ) (front : List ℕ) → IsLaidOut map chip
    → length front ≡ at → IsWritten (slot_of map chip image) front → at + n ≤ length_of map (Slot image Secondary)
    → IsErased chip (start_of map (Slot image Secondary) + at) n
behind_erased map chip image at n front laid long was room = record { each = λ k low high. at_k k low high } where
  at_k : (k : ℕ) → start_of map (Slot image Secondary) + at ≤ k → k < start_of map (Slot image Secondary) + at + n
      → slice_index chip.bytes k ≡ 0xff
  at_k k low high =
      let start = start_of map (Slot image Secondary) in
      let below : k - start < length_of map (Slot image Secondary) = omega arith in
      let is : start + (k - start) ≡ k = omega arith in
      sym (ap (λ j. slice_index chip.bytes j) is) ∙ sym (part_at map chip (Slot image Secondary) (k - start) below)
      ∙ behind_at (slot_of map chip image) front was (k - start) (omega (arith, long))
      (omega (arith, length_part map chip (Slot image Secondary) laid))

-- A list can't both be empty and have bytes.
pub no_bytes : (bytes : List ℕ) → bytes ≡ [] → 0 < length bytes → ⊥
no_bytes bytes none some = let long = ap length none in omega (arith, long, some)

-- A unit of a slot is a unit of the flash.
pub slot_aligned : (map : SectorMap) (image at k : ℕ) → IsMap map → at ≡ 8 * k
    → (start_of map (Slot image Secondary) + at) % 8 ≡ 0
slot_aligned map image at k fits is =
    let start = aligned (first_of map (Slot image Secondary)) map.sector_size (units_of map fits) in
    omega (arith, start)

-- Bytes are written directly after the written ones.
pub written_more : (map : SectorMap) (old new : Chip) (image at place : ℕ) (front bytes : List ℕ) → IsLaidOut map old
    → SameOutside place (length bytes) old new → Reads new place bytes
    → place ≡ start_of map (Slot image Secondary) + at → at + length bytes ≤ length_of map (Slot image Secondary)
    → length front ≡ at → IsWritten (slot_of map old image) front → IsWritten (slot_of map new image) (front ++ bytes)
written_more map old new image at place front bytes laid same reads is room long was =
    let after = part_written map (Slot image Secondary) at place bytes old new laid same reads is room in
    let first : take at (slot_of map old image) ≡ front =
    ap (λ l. take at l) was.is ∙ ap (λ n. take n (front ++ replicate was.left 0xff)) (sym long)
    ∙ take-append_seam front (replicate was.left 0xff) in
    let rest : drop (at + length bytes) (slot_of map old image) ≡ replicate (was.left - length bytes) 0xff =
    ap (λ l. drop (at + length bytes) l) was.is
    ∙ ap (λ n. drop (n + length bytes) (front ++ replicate was.left 0xff)) (sym long)
    ∙ sym (drop-drop (length bytes) (length front) (front ++ replicate was.left 0xff))
    ∙ ap (λ l. drop (length bytes) l) (drop-append_seam front (replicate was.left 0xff))
    ∙ drop-replicate (length bytes) was.left 0xff in
    record {
      left = was.left - length bytes;
      is = after ∙ ap (λ l. l ++ (bytes ++ drop (at + length bytes) (slot_of map old image))) first
          ∙ ap (λ l. front ++ (bytes ++ l)) rest
          ∙ sym (append_assoc front bytes (replicate (was.left - length bytes) 0xff));
    }

-- A slot that is completely erased holds no bytes.
pub slot_erased : (map : SectorMap) (chip : Chip) (image : ℕ) → IsLaidOut map chip
    → IsErased chip (start_of map (Slot image Secondary)) (length_of map (Slot image Secondary))
    → IsWritten (slot_of map chip image) []
slot_erased map chip image laid erased =
    record {
      left = length_of map (Slot image Secondary);
      is = part_erased map chip
          (Slot image Secondary) laid erased;
    }

-- A sector of a slot lies in the slot.
pub in_slot : (map : SectorMap) (image index : ℕ) → index < slot_sectors map image
    → IsIn map (Slot image Secondary) (first_of map (Slot image Secondary) + index)
in_slot map image index lt = record { low = omega arith; high = omega arith }

pub slot_sector : (map : SectorMap) (image index : ℕ) → IsMap map → index < slot_sectors map image
    → first_of map (Slot image Secondary) + index < sectors_of map
slot_sector map image index fits lt =
    within map (Slot image Secondary) (first_of map (Slot image Secondary) + index) fits (in_slot map image index lt)

-- The place of a slot's sector.
pub sector_place : (map : SectorMap) (image index : ℕ)
    → (first_of map (Slot image Secondary) + index) * map.sector_size
    ≡ start_of map (Slot image Secondary) + index * map.sector_size
sector_place map image index = grind arith

pub next_sector : (map : SectorMap) (index : ℕ) → (index + 1) * map.sector_size
    ≡ index * map.sector_size + map.sector_size
next_sector map index = grind arith

-- One sector more of a slot is erased.
pub erased_more : (map : SectorMap) (old new : Chip) (image index : ℕ)
    → IsErased old (start_of map (Slot image Secondary)) (index * map.sector_size)
    → SameOutside ((first_of map (Slot image Secondary) + index) * map.sector_size) map.sector_size old new
    → IsErased new ((first_of map (Slot image Secondary) + index) * map.sector_size) map.sector_size
    → IsErased new (start_of map (Slot image Secondary)) ((index + 1) * map.sector_size)
erased_more map old new image index was same now =
    let start = start_of map (Slot image Secondary) in
    let at = sector_place map image index in
    let before = erased_kept start (index * map.sector_size) _ map.sector_size old new was same
    (inl (omega (arith, at))) in
    let here = subst (λ k. IsErased new k map.sector_size) at now in
    subst (λ n. IsErased new start n) (sym (next_sector map index))
    (erased_joined new start (index * map.sector_size) map.sector_size before here)

-- A slot consists of complete units.
pub slot_units : (map : SectorMap) (image : ℕ) → IsMap map
    → (k : ℕ) × (length_of map (Slot image Secondary) ≡ 8 * k)
slot_units map image fits =
    let unit = aligned (slot_sectors map image) map.sector_size (units_of map fits) in
    (length_of map (Slot image Secondary) / 8, omega (arith, unit))

-- `n` erased bytes.
abbrev pub filler : ℕ → List ℕ
filler n = replicate n 0xff

filled_twice : (a b : ℕ) → filler a ++ filler b ≡ filler (a + b)
filled_twice zero b = let e : b ≡ 0 + b = omega arith in ap filler e
filled_twice (suc a) b =
    let e : suc (a + b) ≡ suc a + b = omega arith in ap (λ l. 0xff ∷ l) (filled_twice a b) ∙ ap filler e

pub length_filler : (n : ℕ) → length (filler n) ≡ n
length_filler n = length-replicate {A = ℕ} n 0xff

-- The filler of a filled unit doesn't count as written.
pub written_less : (slot front bytes all : List ℕ) (n : ℕ) → all ≡ bytes ++ filler n
    → IsWritten slot (front ++ all) → IsWritten slot (front ++ bytes)
written_less slot front bytes all n is was = record {
  left = n + was.left;
  is = was.is ∙ ap (λ l. (front ++ l) ++ filler was.left) is
      ∙ ap (λ l. l ++ filler was.left) (sym (append_assoc front bytes (filler n)))
      ∙ append_assoc (front ++ bytes) (filler n) (filler was.left)
      ∙ ap (λ l. (front ++ bytes) ++ l) (filled_twice n was.left);
}

pub take_filler : (k n : ℕ) → k ≤ n → take k (filler n) ≡ filler k
take_filler k n le = take-replicate k n 0xff le

-- A sector of an erased slot is erased.
pub sector_erased_too : (map : SectorMap) (chip : Chip) (image index : ℕ) → index < slot_sectors map image
    → IsErased chip (start_of map (Slot image Secondary)) (length_of map (Slot image Secondary))
    → IsErased chip ((first_of map (Slot image Secondary) + index) * map.sector_size) map.sector_size
sector_erased_too map chip image index lt blank =
    let first = first_of map (Slot image Secondary) in
    let low = mul_le first (first + index) map.sector_size (omega arith) in
    let high = product_le (first + index) (first + slot_sectors map image) map.sector_size (omega arith) in
    record {
      each = λ k above below. blank.each k (omega (arith, above, low))
          (omega (arith, below, high, end_of map (Slot image Secondary)));
    }

-- An erased slot doesn't change while its sectors are visited one by one.
pub sectors_idle : (map : SectorMap) (old mid new : Chip) (image index : ℕ) → index < slot_sectors map image
    → (IsErased old (start_of map (Slot image Secondary)) (length_of map (Slot image Secondary)) → mid ≡ old)
    → (IsErased mid ((first_of map (Slot image Secondary) + index) * map.sector_size) map.sector_size → new ≡ mid)
    → IsErased old (start_of map (Slot image Secondary)) (length_of map (Slot image Secondary)) → new ≡ old
sectors_idle map old mid new image index lt before next blank =
    let same = before blank in
    next (subst (λ chip. IsErased chip ((first_of map (Slot image Secondary) + index) * map.sector_size) map.sector_size)
    (sym same) (sector_erased_too map old image index lt blank)) ∙ same

-- The journal while the sectors of a slot are visited, if the first one was erased.
pub record FirstIsFree (index : ℕ) (old mid : Chip) : Type 0 where
  -- Before the first sector nothing has changed.
  pub none : index ≡ 0 → mid ≡ old
  -- After it, each other sector takes at most 12 bytes.
  pub some : 0 < index → mid.journaled + 12 ≤ old.journaled + 12 * index

-- So it is after the last sector.
pub free_at_end : {n : ℕ} {old new : Chip} → FirstIsFree n old new → 0 < n
    → new.journaled + 12 ≤ old.journaled + 12 * n
free_at_end free some = free.some some

-- And after a further sector, of `n` in all.
pub free_next : (map : SectorMap) (old mid new : Chip) (image index n : ℕ) → index < n
    → IsErased old (start_of map (Slot image Secondary)) map.sector_size → FirstIsFree index old mid
    → (IsErased mid ((first_of map (Slot image Secondary) + index) * map.sector_size) map.sector_size → new ≡ mid)
    → new.journaled ≤ mid.journaled + 12 → new.journaled + 12 ≤ old.journaled + 12 * n
free_next map old mid new image zero n lt erased free idle journal =
    let at : start_of map (Slot image Secondary) ≡ (first_of map (Slot image Secondary) + 0) * map.sector_size =
    omega (arith, sector_place map image 0) in
    let here = subst (λ k. IsErased old k map.sector_size) at erased in
    let same = free.none refl in
    let still = idle (subst (λ chip. IsErased chip ((first_of map (Slot image Secondary) + 0) * map.sector_size)
    map.sector_size) (sym same) here) ∙ same in
    omega (arith, lt, ap (λ chip. chip.journaled) still)
free_next map old mid new image (suc index) n lt erased free idle journal =
    omega (arith, lt, journal, free.some (omega arith))

-- The first unit of an erased slot isn't set.
pub front_blank : (map : SectorMap) (chip : Chip) (image : ℕ) → IsLaidOut map chip → image < map.images
    → IsErased chip (start_of map (Slot image Secondary)) (length_of map (Slot image Secondary))
    → first_is_set (slot_of map chip image) ≡ false
front_blank map chip image laid lt blank =
    let part = Slot image Secondary in
    let long = sector_of_part map part (some_slot map image Secondary laid.is_map lt) in
    let room : 8 ≤ length_of map part = omega (arith, long, laid.is_map.sector.least) in
    ap not (range_erased map chip part _ _ 0 8 blank laid room (omega arith) (omega (arith, room)))
