-- Lemmas about a part after a write, as a list of bytes.
use Rattle.std.proofs.Common.{◌≡◌, ℕ, ◌+◌, ◌-◌, ◌<◌, ◌≤◌, List, ◌++◌, length, take, drop, slice_index, get_or, arith, sym, ◌∙◌, ap, refl, ⊎_elim, length-append, length-drop, replicate, inl, inr}
use Rattle.std.proofs.lemmas.Bool.{cases_lt}
use Rattle.std.proofs.lemmas.List.{ext_get_or, length-take, length-replicate, get_or-replicate, get_or-take, get_or-drop, get_or_append_left, get_or-append_right}
use Rattle.flash_model.specs.Chip.{Chip, Reads, IsErased, SameOutside}
use Rattle.sector_map.specs.declared.layout.SectorMap.{SectorMap}
use Rattle.sector_map.specs.Part.{Part, only}
use Rattle.sector_map.specs.Map.{start_of, length_of, IsLaidOut, part_of}
use Rattle.sector_map.proofs.Parts.{laid_out_kept}
use Rattle.sector_map.proofs.PartBytes.{length_part, part_kept_at, part_reads, part_erased_at, keeps_write}

-- A list of which a range was replaced, by its elements.
after_write : (old new bytes : List ℕ) (o : ℕ) → length new ≡ length old → o + length bytes ≤ length old
    → ((i : ℕ) → i < o → slice_index new i ≡ slice_index old i)
    → ((i : ℕ) → i < length bytes → slice_index new (o + i) ≡ slice_index bytes i)
    → ((i : ℕ) → o + length bytes ≤ i → i < length old → slice_index new i ≡ slice_index old i)
    → new ≡ take o old ++ (bytes ++ drop (o + length bytes) old)
after_write old new bytes o long le before inside after = ext_get_or 0 new (take o old ++ tail) (long ∙ sym whole) each
  where
    tail : List ℕ
    tail = bytes ++ drop (o + length bytes) old

    front : length (take o old) ≡ o
    front = length-take o old ∙ omega arith

    behind : length tail ≡ length bytes + (length old - (o + length bytes))
    behind = length-append bytes (drop (o + length bytes) old)
        ∙ ap (λ n. length bytes + n) (length-drop (o + length bytes) old)

    whole : length (take o old ++ tail) ≡ length old
    whole = length-append (take o old) tail ∙ omega (arith, front, behind)

    each : (i : ℕ) → i < length new → get_or new i 0 ≡ get_or (take o old ++ tail) i 0
    each i lt = ⊎_elim
        (λ (low : i < o). before i low
        ∙ sym (get_or_append_left (take o old) tail 0 i (omega (arith, front)) ∙ get_or-take o old i 0 low))
        (λ (ge : o ≤ i). right i lt ge)
        (cases_lt i o)
      where
        right : (i : ℕ) → i < length new → o ≤ i → get_or new i 0 ≡ get_or (take o old ++ tail) i 0
        right i lt ge =
            let there : get_or (take o old ++ tail) i 0 ≡ get_or tail (i - o) 0 =
            get_or-append_right (take o old) tail o i 0 front ge in
            ⊎_elim
            (λ (within : i - o < length bytes).
            let is : o + (i - o) ≡ i = omega arith in
            ap (λ k. get_or new k 0) (sym is) ∙ inside (i - o) within
            ∙ sym (there ∙ get_or_append_left bytes (drop (o + length bytes) old) 0 (i - o) within))
            (λ (past : length bytes ≤ i - o).
            let is : o + length bytes + (i - o - length bytes) ≡ i = omega arith in
            after i (omega arith) (omega (arith, long))
            ∙ sym (there ∙ get_or-append_right bytes (drop (o + length bytes) old) (length bytes) (i - o) 0 refl past
            ∙ get_or-drop (o + length bytes) old (i - o - length bytes) 0 ∙ ap (λ k. get_or old k 0) is))
            (cases_lt (i - o) (length bytes))

-- A write changes a part only in its range, to the bytes that were written.
pub part_written : (map : SectorMap) (part : Part) (o at : ℕ) (bytes : List ℕ) (old new : Chip) → IsLaidOut map old
    → SameOutside at (length bytes) old new → Reads new at bytes → at ≡ start_of map part + o
    → o + length bytes ≤ length_of map part
    → part_of map new part ≡ take o (part_of map old part) ++ (bytes ++ drop (o + length bytes) (part_of map old part))
part_written map part o at bytes old new laid same reads is le =
    let old_long = length_part map old part laid in
    let keeps = keeps_write map part o at (length bytes) old new laid same is le in
    let new_long = length_part map new part (laid_out_kept map (only part) old new laid keeps) in
    after_write (part_of map old part) (part_of map new part) bytes o (new_long ∙ sym old_long)
    (omega (arith, old_long))
    (λ i lt. part_kept_at map part at (length bytes) i old new same (omega arith) (inl (omega arith)))
    (λ i lt. part_reads map new part o at i bytes reads is le lt)
    (λ i low lt. part_kept_at map part at (length bytes) i old new same (omega (arith, old_long)) (inr (omega arith)))

-- An erased part is 0xFF throughout.
pub part_erased : (map : SectorMap) (chip : Chip) (part : Part) → IsLaidOut map chip
    → IsErased chip (start_of map part) (length_of map part)
    → part_of map chip part ≡ replicate (length_of map part) 0xff
part_erased map chip part laid erased =
    let long = length_part map chip part laid in
    ext_get_or 0 (part_of map chip part) (replicate (length_of map part) 0xff)
    (long ∙ sym (length-replicate (length_of map part) 0xff))
    (λ i lt.
    let below : i < length_of map part = omega (arith, long) in
    part_erased_at map chip part (start_of map part) (length_of map part) i erased below (omega arith) (omega arith)
    ∙ sym (get_or-replicate (length_of map part) i 0xff 0 below))
