-- Lemmas about ranges of a flash as lists of bytes.
use Rattle.std.proofs.Common.{◌≡◌, ℕ, ◌+◌, ◌-◌, ◌<◌, ◌≤◌, List, length, get_or, slice_index, slice_range}
use Rattle.std.proofs.Common.{drop, min, refl, sym, ◌∙◌, ap, arith, length-drop}
use Rattle.std.proofs.lemmas.List.{ext_get_or, get_or-drop, get_or-take, length-take}
use Rattle.flash_model.specs.Chip.{Chip, Reads}

-- The length of a range.
pub length_range : (xs : List ℕ) (a b : ℕ) → length (slice_range xs a b) ≡ min (b - a) (length xs - a)
length_range xs a b = length-take (b - a) (drop a xs) ∙ ap (λ n. min (b - a) n) (length-drop a xs)

-- An element of a range, by its index in the complete list.
pub range_at : (xs : List ℕ) (a b i : ℕ) → i < b - a → get_or (slice_range xs a b) i 0 ≡ get_or xs (a + i) 0
range_at xs a b i lt = get_or-take (b - a) (drop a xs) i 0 lt ∙ get_or-drop a xs i 0

-- Two ranges are the same if their bytes are.
pub range_same : (a b : ℕ) (old new : List ℕ) → length new ≡ length old
    → ((k : ℕ) → a ≤ k → k < b → slice_index new k ≡ slice_index old k)
    → slice_range new a b ≡ slice_range old a b
range_same a b old new long same = ext_get_or 0 (slice_range new a b) (slice_range old a b)
    (length_range new a b ∙ ap (λ n. min (b - a) (n - a)) long ∙ sym (length_range old a b))
    (λ i lt.
    let within : i < b - a = omega (arith, length_range new a b) in
    range_at new a b i within ∙ same (a + i) (omega arith) (omega arith) ∙ sym (range_at old a b i within))

-- A range is the list of the bytes that are read from it.
pub range_of_reads : (chip : Chip) (at : ℕ) (bytes : List ℕ) → Reads chip at bytes
    → at + length bytes ≤ length chip.bytes → slice_range chip.bytes at (at + length bytes) ≡ bytes
range_of_reads chip at bytes reads fits =
    let long = length_range chip.bytes at (at + length bytes) in
    ext_get_or 0 (slice_range chip.bytes at (at + length bytes)) bytes (long ∙ omega arith) (λ i lt.
    let below : i < length bytes = omega (arith, long) in
    range_at chip.bytes at (at + length bytes) i (omega arith) ∙ reads.each (at + i) i refl below)
