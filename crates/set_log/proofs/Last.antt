-- The last gated record of a sector, and how writes change it.
use Rattle.std.proofs.Common.{◌≡◌, ◌≢◌, ◌⊎◌, ℕ, zero, suc, ◌+◌, ◌-◌, ◌*◌, ◌<◌, ◌≤◌, Bool, true, false, List, Some, length, slice_range, slice_index, arith, refl, sym, ◌∙◌, ap, subst, inl, inr, ⊎_elim}
use Rattle.std.proofs.lemmas.Bool.{cases_eq}
use Rattle.flash_model.specs.Chip.{Chip, IsErased, Reads, SameOutside}
use Rattle.flash_model.proofs.Frame.{reads_kept, same_outside_joined, same_outside_wider}
use Rattle.flash_model.proofs.Ranges.{range_same, range_of_reads}
use Rattle.set_log.specs.Ring.{reads_erased, last_gated, last_of, places_in, IsFree}
use Rattle.set_log.proofs.Blank.{reads_erased_of, same_reads}

-- If the gate of the last of p places is erased, the first p - 1 places decide.
pub last_step : (log : List ℕ) (at p q : ℕ) → p ≡ suc q → reads_erased log (at + 64 * q + 56) 8 ≡ true
    → last_gated log at p ≡ last_gated log at q
last_step log at p q is gate =
    let here : last_gated log at (suc q) ≡ last_gated log at q = rw gate refl in
    ap (last_gated log at) is ∙ here

-- If the gate of the last of p places is set, its record is the last gated one.
pub last_here : (log : List ℕ) (at p q : ℕ) → p ≡ suc q → reads_erased log (at + 64 * q + 56) 8 ≡ false
    → last_gated log at p ≡ Some (slice_range log (at + 64 * q) (at + 64 * q + 56))
last_here log at p q is gate =
    let here : last_gated log at (suc q) ≡ Some (slice_range log (at + 64 * q) (at + 64 * q + 56)) = rw gate refl in
    ap (last_gated log at) is ∙ here

pub last_of_is : (e : ℕ) (log : List ℕ) (sector n : ℕ) → n ≡ places_in e
    → last_of e log sector ≡ last_gated log (sector * e) n
unfolding last_of
last_of_is e log sector n is = ap (last_gated log (sector * e)) (sym is)

-- Places whose gates are erased don't count.
erased_above : (log : List ℕ) (at n p : ℕ) → p ≤ n
    → ((q : ℕ) → p ≤ q → q < n → reads_erased log (at + 64 * q + 56) 8 ≡ true)
    → last_gated log at n ≡ last_gated log at p
erased_above log at zero p le each =
    let eq : zero ≡ p = omega arith in
    ap (λ m. last_gated log at m) eq
erased_above log at (suc n) p le each = ⊎_elim
    (λ (eq : p ≡ suc n). ap (λ m. last_gated log at m) (sym eq))
    (λ (ne : p ≢ suc n).
    let here = each n (omega arith) (omega arith) in
    let below = erased_above log at n p (omega arith) (λ q low high. each q low (omega arith)) in
    rw here below)
    (cases_eq p (suc n))

-- The same bytes have the same last gated record.
pub last_same : (old new : List ℕ) (at n : ℕ) → length new ≡ length old
    → ((k : ℕ) → at ≤ k → k < at + 64 * n → slice_index new k ≡ slice_index old k)
    → last_gated new at n ≡ last_gated old at n
last_same old new at zero long same = refl
last_same old new at (suc n) long same =
    let gate = same_reads (at + 64 * n + 56) 8 old new long (λ k low high. same k (omega arith) (omega arith)) in
    let body = range_same (at + 64 * n) (at + 64 * n + 56) old new long
    (λ k low high. same k (omega arith) (omega arith)) in
    let below = last_same old new at n long (λ k low lt. same k low (omega arith)) in
    rw (gate, body, below) refl

-- From place p on, all of n places are erased.
record FreeAt (log : Chip) (at n p : ℕ) : Type 0 where
  within : p < n
  erased : IsErased log (at + 64 * p) (64 * (n - p))

gate_erased : (at n p q : ℕ) (log : Chip) → FreeAt log at n p → p ≤ q → q < n
    → reads_erased log.bytes (at + 64 * q + 56) 8 ≡ true
gate_erased at n p q log free low high =
    reads_erased_of log _ 8 (record { each = λ k l h. free.erased.each k (omega arith) (omega arith) })

gate_after : (at n p q : ℕ) (old new : Chip) → FreeAt old at n p → SameOutside (at + 64 * p) 64 old new
    → p + 1 ≤ q → q < n → reads_erased new.bytes (at + 64 * q + 56) 8 ≡ true
gate_after at n p q old new free same low high = reads_erased_of new _ 8 (record {
  each = λ k l h. same.after k (omega arith) ∙ free.erased.each k (omega arith) (omega arith);
})

-- A record whose gate is erased doesn't count.
record_kept : (at n p : ℕ) (old new : Chip) → FreeAt old at n p → SameOutside (at + 64 * p) 64 old new
    → reads_erased new.bytes (at + 64 * p + 56) 8 ≡ true
    → last_gated new.bytes at n ≡ last_gated old.bytes at n
record_kept at n p old new free same gate =
    let free_new : (q : ℕ) → p ≤ q → q < n → reads_erased new.bytes (at + 64 * q + 56) 8 ≡ true =
    λ q low high. ⊎_elim
    (λ (eq : p ≡ q). subst (λ j. reads_erased new.bytes (at + 64 * j + 56) 8 ≡ true) eq gate)
    (λ (ne : p ≢ q). gate_after at n p q old new free same (omega arith) high)
    (cases_eq p q) in
    erased_above new.bytes at n p (omega (arith, free.within)) free_new
    ∙ last_same old.bytes new.bytes at p same.size (λ k low lt. same.before k lt)
    ∙ sym (erased_above old.bytes at n p (omega (arith, free.within))
    (λ q low high. gate_erased at n p q old free low high))

-- A record at a free place whose gate is set is the last gated one.
record_new : (at n p : ℕ) (body : List ℕ) (old new : Chip) → FreeAt old at n p
    → SameOutside (at + 64 * p) 64 old new → reads_erased new.bytes (at + 64 * p + 56) 8 ≡ false
    → Reads new (at + 64 * p) body → length body ≡ 56 → at + 64 * n ≤ length new.bytes
    → last_gated new.bytes at n ≡ Some body
record_new at n p body old new free same gate reads long inside =
    let there : slice_range new.bytes (at + 64 * p) (at + 64 * p + 56) ≡ body =
    subst (λ m. slice_range new.bytes (at + 64 * p) (at + 64 * p + m) ≡ body) long
    (range_of_reads new (at + 64 * p) body reads (omega (arith, free.within))) in
    let above : last_gated new.bytes at n ≡ last_gated new.bytes at (suc p) =
    erased_above new.bytes at n (suc p) (omega (arith, free.within))
    (λ q low high. gate_after at n p q old new free same (omega arith) high) in
    let here : last_gated new.bytes at (suc p) ≡ Some body = rw (gate, there) refl in
    above ∙ here

record_either : (at n p : ℕ) (body : List ℕ) (old new : Chip) → FreeAt old at n p
    → SameOutside (at + 64 * p) 64 old new → Reads new (at + 64 * p) body → length body ≡ 56
    → at + 64 * n ≤ length new.bytes
    → (last_gated new.bytes at n ≡ last_gated old.bytes at n) ⊎ (last_gated new.bytes at n ≡ Some body)
record_either at n p body old new free same reads long inside = by _ refl
  where
    by : (b : Bool) → reads_erased new.bytes (at + 64 * p + 56) 8 ≡ b
        → (last_gated new.bytes at n ≡ last_gated old.bytes at n) ⊎ (last_gated new.bytes at n ≡ Some body)
    by true is = inl (record_kept at n p old new free same is)
    by false is = inr (record_new at n p body old new free same is reads long inside)

-- If only the body is written, the gate is still erased.
gate_kept : (at n p : ℕ) (old new : Chip) → FreeAt old at n p → SameOutside (at + 64 * p) 56 old new
    → reads_erased new.bytes (at + 64 * p + 56) 8 ≡ true
gate_kept at n p old new free same = reads_erased_of new _ 8 (record {
  each = λ k l h. same.after k (omega arith) ∙ free.erased.each k (omega arith) (omega (arith, free.within));
})

free_at : (e : ℕ) (log : Chip) (sector place : ℕ) → IsFree e log sector place
    → FreeAt log (sector * e) (places_in e) place
free_at e log sector place free = record { within = free.within; erased = free.erased }

-- A record that is torn or has no gate yet leaves the last gated record.
pub body_kept : (e sector place : ℕ) (old new : Chip) → IsFree e old sector place
    → SameOutside (sector * e + 64 * place) 56 old new
    → last_of e new.bytes sector ≡ last_of e old.bytes sector
unfolding last_of
body_kept e sector place old new free same =
    let here = free_at e old sector place free in
    let wide = same_outside_wider _ 56 (sector * e + 64 * place) 64 _ _ same (omega arith) (omega arith) in
    record_kept (sector * e) (places_in e) place old new here wide
    (gate_kept (sector * e) (places_in e) place old new here same)

-- A record that was written at a free place, and then its gate, which may be torn.
pub record Written (e sector place : ℕ) (body : List ℕ) (old mid new : Chip) : Type 0 where
  pub free : IsFree e old sector place
  pub body_alone : SameOutside (sector * e + 64 * place) 56 old mid
  pub reads : Reads mid (sector * e + 64 * place) body
  pub gate_alone : SameOutside (sector * e + 64 * place + 56) 8 mid new
  pub long : length body ≡ 56
  pub inside : sector * e + e ≤ length new.bytes

-- Both writes together change only the place.
pub written_alone : (e sector place : ℕ) (body : List ℕ) (old mid new : Chip)
    → Written e sector place body old mid new → SameOutside (sector * e + 64 * place) 64 old new
written_alone e sector place body old mid new w =
    same_outside_joined (sector * e + 64 * place) 56 8 old mid new w.body_alone w.gate_alone

still_reads : (e sector place : ℕ) (body : List ℕ) (old mid new : Chip)
    → Written e sector place body old mid new → Reads new (sector * e + 64 * place) body
still_reads e sector place body old mid new w =
    reads_kept _ _ 8 body mid new w.reads w.gate_alone (inl (omega (arith, w.long)))

-- If its gate is torn, the last gated record is the old one or the new one.
pub gate_torn : (e sector place : ℕ) (body : List ℕ) (old mid new : Chip)
    → Written e sector place body old mid new
    → (last_of e new.bytes sector ≡ last_of e old.bytes sector) ⊎ (last_of e new.bytes sector ≡ Some body)
unfolding last_of
gate_torn e sector place body old mid new w =
    record_either (sector * e) (places_in e) place body old new (free_at e old sector place w.free)
    (written_alone e sector place body old mid new w) (still_reads e sector place body old mid new w) w.long
    (omega (arith, w.inside, w.free.within))

-- If its gate is set, the last gated record is the new one.
pub gate_set : (e sector place : ℕ) (body : List ℕ) (old mid new : Chip)
    → Written e sector place body old mid new
    → reads_erased new.bytes (sector * e + 64 * place + 56) 8 ≡ false
    → last_of e new.bytes sector ≡ Some body
unfolding last_of
gate_set e sector place body old mid new w set =
    record_new (sector * e) (places_in e) place body old new (free_at e old sector place w.free)
    (written_alone e sector place body old mid new w) set (still_reads e sector place body old mid new w) w.long
    (omega (arith, w.inside, w.free.within))
