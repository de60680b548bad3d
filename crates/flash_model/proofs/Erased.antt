-- Lemmas about erased ranges.
use Rattle.std.proofs.Common.{◌≡◌, ◌⊎◌, ℕ, zero, suc, ◌+◌, ◌-◌, ◌<◌, ◌≤◌, ◌==◌, ◌&&◌, Bool, true, false}
use Rattle.std.proofs.Common.{List, [], ◌∷◌, length}
use Rattle.std.proofs.Common.{slice_index, arith, refl, sym, ◌∙◌, ap, inr, ⊎_elim}
use Rattle.std.proofs.lemmas.Bool.{cases_lt}
use Rattle.std.proofs.lemmas.Bool.Decides.{nat_tests}
use Rattle.flash_model.specs.Chip.{Chip, Reads, IsErased, SameOutside}
use Rattle.flash_model.specs.Units.{are_erased}

both : (a b : Bool) → (a && b) ≡ true → (a ≡ true) × (b ≡ true)
both true b e = (refl, e)
both false b e = (e, cc)

eq_is : (a b : ℕ) → (a == b) ≡ true → a ≡ b
eq_is a b e = grind (arith, nat_tests, e)

eq_true : (a b : ℕ) → a ≡ b → (a == b) ≡ true
eq_true a b e = grind (arith, nat_tests, e)

-- Each byte of erased bytes is 0xFF.
pub erased_each : (bytes : List ℕ) (k : ℕ) → are_erased bytes ≡ true → k < length bytes → slice_index bytes k ≡ 0xff
erased_each [] k all lt = absurd (omega (arith, lt))
erased_each (b ∷ bytes) zero all lt = eq_is b 0xff (both (b == 0xff) (are_erased bytes) all).0
erased_each (b ∷ bytes) (suc k) all lt = erased_each bytes k (both (b == 0xff) (are_erased bytes) all).1
    (omega (arith, lt))

-- Bytes are erased if each of them is 0xFF.
pub each_erased : (bytes : List ℕ) → ((k : ℕ) → k < length bytes → slice_index bytes k ≡ 0xff) → are_erased bytes ≡ true
each_erased [] each = refl
each_erased (b ∷ bytes) each =
    ap (λ t. t && are_erased bytes) (eq_true b 0xff (each 0 (omega arith))) ∙ each_erased bytes
    (λ k lt. each (suc k) (omega (arith, lt)))

-- A range inside an erased range is erased.
pub erased_narrower : (chip : Chip) (at n from m : ℕ)
    → IsErased chip at n → at ≤ from → from + m ≤ at + n → IsErased chip from m
erased_narrower chip at n from m erased low high = record {
  each = λ k above below. erased.each k (omega arith) (omega arith);
}

-- Two erased ranges, one after the other, are one erased range.
pub erased_joined : (chip : Chip) (at n m : ℕ)
    → IsErased chip at n → IsErased chip (at + n) m → IsErased chip at (n + m)
erased_joined chip at n m first second = record {
  each = λ k low high. ⊎_elim
      (λ (before : k < at + n). first.each k low before)
      (λ (behind : at + n ≤ k). second.each k behind (omega arith))
      (cases_lt k (at + n));
}

-- An erased range beside a written one stays erased.
pub erased_kept : (at n from m : ℕ) (old new : Chip) → IsErased old at n → SameOutside from m old new
    → (at + n ≤ from) ⊎ (from + m ≤ at) → IsErased new at n
erased_kept at n from m old new erased same apart = record {
  each = λ k low high. grind (arith, erased.each, same.before, same.after);
}

-- The rest of an erased range stays erased after a write of its front.
pub erased_after : (at n all from done : ℕ) (old new : Chip) → IsErased old from all
    → SameOutside from done old new → from + done ≤ at → at + n ≤ from + all → IsErased new at n
erased_after at n all from done old new erased same low high =
    erased_kept at n from done old new (erased_narrower old from all at n erased (omega arith) high) same (inr low)

-- If the bytes that were read are erased, so is the range.
pub erased_of_reads : (chip : Chip) (at : ℕ) (bytes : List ℕ) → Reads chip at bytes
    → are_erased bytes ≡ true → IsErased chip at (length bytes)
erased_of_reads chip at bytes reads all = record {
  each = λ k low high. grind (arith, reads.each k (k - at), erased_each bytes (k - at) all);
}

-- If a range is erased, so are the bytes that were read from it.
pub reads_of_erased : (chip : Chip) (at : ℕ) (bytes : List ℕ) → Reads chip at bytes
    → IsErased chip at (length bytes) → are_erased bytes ≡ true
reads_of_erased chip at bytes reads erased = each_erased bytes
    (λ i lt. sym (reads.each (at + i) i refl lt) ∙ erased.each (at + i) (omega arith) (omega arith))
