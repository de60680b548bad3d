-- Lemmas about bytes of which a range was replaced, by a write that was done or torn.
use Rattle.std.proofs.Common.{◌≡◌, ◌*◌, ℕ, ◌+◌, ◌-◌, ◌/◌, ◌%◌, ◌<◌, ◌≤◌, List, [], ◌∷◌, ◌++◌, length, take, drop}
use Rattle.std.proofs.Common.{slice_index, slice_range, replicate, refl, sym, ◌∙◌, ap, arith}
use Rattle.std.proofs.lemmas.List.{ext_get_or, get_or-drop, get_or-take, get_or_append_left, get_or-append_right}
use Rattle.std.proofs.lemmas.List.{length-append, length-take, length-drop, length-replicate, get_or-replicate, take_at}
use Rattle.std.proofs.lemmas.List.{append_assoc, drop-append-le, drop-drop, take-append-drop, take-replicate}
use Rattle.std.proofs.lemmas.List.FromFn.{get_or-map-range_with_len, length-map-range_with_len}
use Rattle.flash_model.specs.declared.torn.Torn.{Torn}
use Rattle.flash_model.specs.declared.torn.Torn.TheVariants.{Keep, Done, Half, Bytes}
use Rattle.flash_model.specs.Chip.{Chip, IsErased, Reads, SameOutside}
use Rattle.flash_model.proofs.Frame.{product_le}
use Rattle.flash_model.proofs.Ranges.{length_range}
use Rattle.flash_model.specs.Torn.{half_done, repeated, replaced, torn_at, torn_bytes, with_pattern}

-- An empty pattern leaves the old bytes.
pub with_pattern_none : (pattern old : List ℕ) → length pattern ≡ 0 → old ≡ with_pattern pattern old
with_pattern_none [] old none = refl
with_pattern_none (b ∷ bs) old none = absurd (omega (arith, none))

-- Bytes that are those of the pattern, one by one, are the old bytes with the pattern over them.
pub with_pattern_each : (pattern old new : List ℕ) → 0 < length pattern → length new ≡ length old
    → ((k : ℕ) → k < length old → slice_index new k ≡ slice_index pattern (k % length pattern))
    → new ≡ with_pattern pattern old
with_pattern_each [] old new some long each = absurd (omega (arith, some))
with_pattern_each (b ∷ bs) old new some long each =
    let at : ℕ → ℕ = λ i. slice_index (b ∷ bs) (i % length (b ∷ bs)) in
    ext_get_or 0 new (repeated (b ∷ bs) (length old))
    (long ∙ sym (length-map-range_with_len at 0 (length old)))
    (λ i below.
    let within : i < length old = omega (arith, below, long) in
    each i within ∙ sym (get_or-map-range_with_len at 0 (length old) i i 0 within (omega arith)))

pub length-with_pattern : (pattern old : List ℕ) → length (with_pattern pattern old) ≡ length old
length-with_pattern [] old = refl
length-with_pattern (b ∷ bs) old =
    length-map-range_with_len (λ i. slice_index (b ∷ bs) (i % length (b ∷ bs))) 0 (length old)

-- Half of a write leaves the length unchanged.
length-half_done : (old done : List ℕ) → length old ≡ length done
    → length (half_done old done) ≡ length done
length-half_done old done same = simp (length-append, length-take, length-drop) (omega (arith, same))

-- An interrupted write leaves the length unchanged.
pub length-torn_bytes : (torn : Torn) (old done : List ℕ) → length old ≡ length done
    → length (torn_bytes torn old done) ≡ length done
length-torn_bytes Keep old done same = same
length-torn_bytes Done old done same = refl
length-torn_bytes Half old done same = length-half_done old done same
length-torn_bytes (Bytes pattern) old done same = length-with_pattern pattern.items old ∙ same

pub length-replaced : (at : ℕ) (range bytes : List ℕ) → at + length range ≤ length bytes
    → length (replaced at range bytes) ≡ length bytes
length-replaced at range bytes inside = simp (length-append, length-take, length-drop) (omega arith)

-- A range that is replaced by its own bytes doesn't change.
pub same_replaced : (at n : ℕ) (bytes : List ℕ) → at + n ≤ length bytes
    → bytes ≡ replaced at (slice_range bytes at (at + n)) bytes
same_replaced at n bytes inside =
    let range : List ℕ = slice_range bytes at (at + n) in
    let behind : List ℕ = drop at bytes in
    let is : take n behind ≡ range = ap (λ k. take k behind) (omega arith) in
    let long : n ≡ length range = sym (length_range bytes at (at + n) ∙ omega arith) in
    let rest : drop n behind ≡ drop (at + length range) bytes =
    drop-drop n at bytes ∙ ap (λ k. drop (at + k) bytes) long in
    sym (take-append-drop at bytes) ∙ ap (λ all. take at bytes ++ all)
    (sym (take-append-drop n behind) ∙ ap (λ r. r ++ drop n behind) is ∙ ap (λ r. range ++ r) rest)

-- A replaced range leaves all other bytes unchanged.
pub outside_of_replaced : (at n : ℕ) (range : List ℕ) (old new : Chip) → length range ≡ n
    → at + n ≤ length old.bytes → new.bytes ≡ replaced at range old.bytes
    → new.sector_size ≡ old.sector_size → new.sectors ≡ old.sectors → new.fixed ≡ old.fixed
    → SameOutside at n old new
outside_of_replaced at n range old new long inside is size sectors fixed =
    let front : length (take at old.bytes) ≡ at = length-take at old.bytes ∙ omega arith in
    record {
      sector_size = size;
      sectors = sectors;
      fixed = fixed;
      size = ap length is ∙ length-replaced at range old.bytes (omega arith);
      before = λ k low. ap (λ bytes. slice_index bytes k) is
          ∙ get_or_append_left (take at old.bytes) _ 0 k (omega arith) ∙ get_or-take at old.bytes k 0 low;
      after = λ k high. ap (λ bytes. slice_index bytes k) is
          ∙ get_or-append_right (take at old.bytes) _ at k 0 front (omega arith)
          ∙ get_or-append_right range _ n (k - at) 0 long (omega arith)
          ∙ get_or-drop (at + length range) old.bytes (k - at - n) 0
          ∙ ap (λ i. slice_index old.bytes i) (omega arith);
    }

-- The range has the new bytes.
pub reads_of_replaced : (at : ℕ) (range old : List ℕ) (new : Chip) → at + length range ≤ length old
    → new.bytes ≡ replaced at range old → Reads new at range
reads_of_replaced at range old new inside is =
    let front : length (take at old) ≡ at = length-take at old ∙ omega arith in
    record {
      each = λ k i place below.
          let there : k - at ≡ i = omega arith in
          ap (λ bytes. slice_index bytes k) is
          ∙ get_or-append_right (take at old) _ at k 0 front (omega arith)
          ∙ ap (λ j. slice_index (range ++ drop (at + length range) old) j) there
          ∙ get_or_append_left range _ 0 i below;
    }

-- The range is erased if the new bytes are.
pub erased_of_replaced : (at n : ℕ) (old : List ℕ) (new : Chip) → at + length {A = ℕ} (replicate n 255) ≤ length old
    → new.bytes ≡ replaced at (replicate n 255) old → IsErased new at n
erased_of_replaced at n old new inside is =
    let reads = reads_of_replaced at (replicate n 255) old new inside is in
    let long : length {A = ℕ} (replicate n 255) ≡ n = length-replicate {A = ℕ} n 255 in
    record {
      each = λ k low high.
          reads.each k (k - at) (omega arith) (omega arith) ∙ get_or-replicate n (k - at) 255 0 (omega arith);
    }

-- An interrupted write leaves the length of its range unchanged.
pub length-torn_range : (torn : Torn) (at : ℕ) (bytes done : List ℕ) → at + length done ≤ length bytes
    → length (torn_bytes torn (slice_range bytes at (at + length done)) done) ≡ length done
length-torn_range torn at bytes done inside = length-torn_bytes torn _ done
    (length_range bytes at (at + length done) ∙ omega arith)

-- An interrupted write leaves the length of all bytes unchanged.
pub length-torn_at : (torn : Torn) (at : ℕ) (done bytes : List ℕ) → at + length done ≤ length bytes
    → length (torn_at at done torn bytes) ≡ length bytes
length-torn_at torn at done bytes inside =
    let long = length-torn_range torn at bytes done inside in
    length-replaced at _ bytes (omega (arith, long, inside))

-- An interrupted write leaves all bytes outside its range unchanged.
pub outside_of_torn : (torn : Torn) (at n : ℕ) (done : List ℕ) (old new : Chip) → length done ≡ n
    → at + length done ≤ length old.bytes → new.bytes ≡ torn_at at done torn old.bytes
    → new.sector_size ≡ old.sector_size → new.sectors ≡ old.sectors → new.fixed ≡ old.fixed
    → SameOutside at n old new
outside_of_torn torn at n done old new long inside is size sectors fixed = outside_of_replaced at n _ old new
    (length-torn_range torn at old.bytes done inside ∙ long) (omega (arith, long, inside)) is size sectors fixed

-- The bytes after an interrupted erase.
pub torn_blank : (torn : Torn) (at n : ℕ) (old new : List ℕ)
    → new ≡ replaced at (torn_bytes torn (slice_range old at (at + n)) (replicate n 255)) old
    → new ≡ torn_at at (replicate n 255) torn old
torn_blank torn at n old new is =
    let blank : List ℕ = replicate n 255 in
    let long : n ≡ length blank = sym (length-replicate {A = ℕ} n 255) in
    is ∙ ap (λ m. replaced at (torn_bytes torn (slice_range old at (at + m)) blank) old) long

-- The items of a vector after all of them were borrowed and replaced by the same number of others.
pub items_after : (len : ℕ) (old new whole : List ℕ) → new ≡ whole → length whole ≡ length old
    → length old ≡ len → take len (new ++ drop (length new) old) ≡ whole
items_after len old new whole is long all =
    let same : length new ≡ len = ap length is ∙ long ∙ all in
    take_at new (drop (length new) old) len same ∙ is

-- A sector lies in the flash.
pub blank_inside : (sector sectors size : ℕ) (bytes : List ℕ) → sector < sectors
    → length bytes ≡ sectors * size → sector * size + length {A = ℕ} (replicate size 255) ≤ length bytes
blank_inside sector sectors size bytes below whole =
    let blank : List ℕ = replicate size 255 in
    let long : length blank ≡ size = length-replicate {A = ℕ} size 255 in
    let within = product_le sector sectors size below in
    omega (arith, long, within, whole)

-- The items of a vector after an interrupted erase.
pub items_after_torn_blank : (torn : Torn) (len at n : ℕ) (old new : List ℕ)
    → new ≡ replaced at (torn_bytes torn (slice_range old at (at + n)) (replicate n 255)) old
    → at + length {A = ℕ} (replicate n 255) ≤ length old → length old ≡ len
    → take len (new ++ drop (length new) old) ≡ torn_at at (replicate n 255) torn old
items_after_torn_blank torn len at n old new is inside all =
    let blank : List ℕ = replicate n 255 in
    items_after len old new (torn_at at blank torn old) (torn_blank torn at n old new is)
    (length-torn_at torn at blank old inside) all

-- ---- half of a write

-- Writing the front of a range has the same result as writing the complete range with its old rest.
front_put : (at n : ℕ) (range bytes : List ℕ) → n ≤ length range → at + length range ≤ length bytes
    → replaced at (take n range) bytes
    ≡ replaced at (take n range ++ drop n (slice_range bytes at (at + length range))) bytes
front_put at n range bytes front inside =
    let m : ℕ = length range in
    let behind : List ℕ = drop at bytes in
    let whole : slice_range bytes at (at + m) ≡ take m behind = ap (λ k. take k behind) (omega arith) in
    let written : List ℕ = take n range ++ drop n (slice_range bytes at (at + m)) in
    let long : length (take n range) ≡ n = length-take n range ∙ omega arith in
    let range_long : length (slice_range bytes at (at + m)) ≡ m
    = length_range bytes at (at + m) ∙ omega arith in
    let written_long : length written ≡ m =
    simp (length-append, length-drop) (omega (arith, long, range_long)) in
    let parted : drop n (take m behind) ++ drop m behind ≡ drop n behind =
    sym (drop-append-le n (take m behind) (drop m behind) (omega (arith, length-take m behind, length-drop at bytes)))
    ∙ ap (λ all. drop n all) (take-append-drop m behind) in
    let rest : drop n (slice_range bytes at (at + m)) ++ drop (at + length written) bytes
    ≡ drop (at + length (take n range)) bytes =
    ap (λ all. drop n all ++ drop (at + length written) bytes) whole
    ∙ ap (λ k. drop n (take m behind) ++ drop (at + k) bytes) written_long
    ∙ ap (λ all. drop n (take m behind) ++ all) (sym (drop-drop m at bytes))
    ∙ parted ∙ drop-drop n at bytes ∙ ap (λ k. drop (at + k) bytes) (sym long) in
    ap (λ all. take at bytes ++ (take n range ++ all)) (sym rest)
    ∙ ap (λ all. take at bytes ++ all)
    (sym (append_assoc (take n range) (drop n (slice_range bytes at (at + m))) (drop (at + length written) bytes)))

-- The first half of these bytes is written.
pub half_put : (at : ℕ) (range bytes new : List ℕ) → at + length range ≤ length bytes
    → new ≡ replaced at (take (length range / 2) range) bytes → new ≡ torn_at at range Half bytes
half_put at range bytes new inside is =
    is ∙ front_put at (length range / 2) range bytes (omega arith) inside

-- The first half of n bytes is erased.
pub half_blank : (at n : ℕ) (bytes new : List ℕ) → at + n ≤ length bytes
    → new ≡ replaced at (replicate (n / 2) 255) bytes
    → new ≡ replaced at (half_done (slice_range bytes at (at + n)) (replicate n 255)) bytes
half_blank at n bytes new inside is =
    let blank : List ℕ = replicate n 255 in
    let long : length blank ≡ n = length-replicate {A = ℕ} n 255 in
    let half : replicate (n / 2) 255 ≡ take (length blank / 2) blank =
    sym (take-replicate (n / 2) n 255 (omega arith)) ∙ ap (λ m. take (m / 2) blank) (sym long) in
    is ∙ ap (λ front. replaced at front bytes) half
    ∙ front_put at (length blank / 2) blank bytes (omega arith) (omega (arith, long, inside))
    ∙ ap (λ m. replaced at (half_done (slice_range bytes at (at + m)) blank) bytes) long
