-- When bytes of the log read as erased.
use Rattle.std.proofs.Common.{◌≡◌, ℕ, ◌+◌, ◌-◌, ◌*◌, ◌<◌, ◌≤◌, Bool, true, false, List, length, slice_range, slice_index, arith, refl, sym, ◌∙◌, ap, subst, ⊎_elim}
use Rattle.std.proofs.lemmas.Bool.{cases_lt}
use Rattle.flash_model.specs.Chip.{Chip, IsErased}
use Rattle.flash_model.specs.Units.{are_erased}
use Rattle.flash_model.proofs.Erased.{each_erased, erased_each}
use Rattle.flash_model.proofs.Ranges.{length_range, range_at, range_same}
use Rattle.set_log.specs.Ring.{reads_erased}

-- Erased bytes read as erased.
pub reads_erased_of : (log : Chip) (at n : ℕ) → IsErased log at n → reads_erased log.bytes at n ≡ true
unfolding reads_erased
reads_erased_of log at n erased = each_erased _ (λ i lt.
    let below : i < n = omega (arith, length_range log.bytes at (at + n)) in
    range_at log.bytes at (at + n) i (omega arith) ∙ erased.each (at + i) (omega arith) (omega arith))

-- Bytes that read as erased are erased.
pub erased_of_reads : (log : Chip) (at n : ℕ) → reads_erased log.bytes at n ≡ true
    → at + n ≤ length log.bytes → IsErased log at n
unfolding reads_erased
erased_of_reads log at n reads fits = record {
  each = λ k low high.
      let long : k - at < length (slice_range log.bytes at (at + n)) =
      omega (arith, length_range log.bytes at (at + n)) in
      let place : at + (k - at) ≡ k = omega arith in
      subst (λ j. slice_index log.bytes j ≡ 0xff) place
      (sym (range_at log.bytes at (at + n) (k - at) (omega arith)) ∙ erased_each _ (k - at) reads long);
}

-- The same bytes read the same.
pub same_reads : (at n : ℕ) (old new : List ℕ) → length new ≡ length old
    → ((k : ℕ) → at ≤ k → k < at + n → slice_index new k ≡ slice_index old k)
    → reads_erased new at n ≡ reads_erased old at n
unfolding reads_erased
same_reads at n old new long same =
    ap are_erased (range_same at (at + n) old new long same)

pub not_true : (b : Bool) → (b ≡ true → ⊥) → b ≡ false
not_true true never = absurd (never refl)
not_true false never = refl

-- If the place below erased ones is erased, all places from it on are.
pub erased_below : (at p n : ℕ) (log : Chip) → IsErased log (at + 64 * p) (64 * (n - p)) → 0 < p → p ≤ n
    → IsErased log (at + 64 * (p - 1)) 64 → IsErased log (at + 64 * (p - 1)) (64 * (n - (p - 1)))
erased_below at p n log above some le here = record {
  each = λ k low high. ⊎_elim
      (λ (lt : k < at + 64 * p). here.each k low (omega arith))
      (λ (ge : at + 64 * p ≤ k). above.each k ge (omega arith))
      (cases_lt k (at + 64 * p));
}
