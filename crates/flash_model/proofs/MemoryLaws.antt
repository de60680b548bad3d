-- Lemmas about what a write of a flash in memory leaves.
use Rattle.std.proofs.Common.{◌≡◌, ℕ, zero, suc, ◌+◌, ◌-◌, ◌^◌, ◌<◌, ◌≤◌, ◌==◌, Bool, true, false, List, [], ◌∷◌, ◌++◌}
use Rattle.std.proofs.Common.{Some, None, Ok, Err}
use Rattle.std.proofs.Common.{refl, sym, ◌∙◌, ap, arith, subst, ⊎_elim}
use Rattle.std.specs.Prelude.{if◌then◌else◌}
use Rattle.std.specs.List.{All}
use Rattle.std.proofs.lemmas.Bool.{cases_lt, false≢true, ne_eqb}
use Rattle.std.proofs.lemmas.List.Elements.{All-append}
use Rattle.std.proofs.lemmas.Option.{none-some, same_Some}
use Rattle.flash_model.specs.declared.error.FlashError.TheVariants.{Cut}
use Rattle.flash_model.specs.declared.torn.Armed.{Armed}
use Rattle.flash_model.specs.declared.torn.Torn.{Torn}
use Rattle.flash_model.specs.Chip.{Chip, unarmed}
use Rattle.flash_model.specs.Memory.{Writes, armed_with, new_chip, next_torn, one_more, torn, with_counts}
use Rattle.flash_model.specs.Torn.{torn_for}

-- If all armed numbers are below a limit, no number from the limit on is armed.
pub none_behind : (armed : List Armed) (limit number : ℕ) → All (λ write. write.at < limit) armed
    → limit ≤ number → torn_for number armed ≡ None
none_behind [] limit number below past = refl
none_behind (write ∷ armed) limit number below past =
    let first : write.at < limit = below 0 write (omega arith) in
    let other : (write.at == number) ≡ false = ne_eqb write.at number (λ same. absurd (omega (arith, same, first))) in
    rw other (none_behind armed limit number (λ k d lt. below (suc k) d (omega arith)) past)

-- All armed numbers are below a limit, also after one more was armed.
pub below_pushed : (pushed : Bool) (armed new : List Armed) (limit : ℕ) (write : Armed)
    → new ≡ (if pushed then armed ++ write ∷ [] else armed) → All (λ w. w.at < limit) armed → write.at < limit
    → All (λ w. w.at < limit) new
below_pushed true armed new limit write is below last =
    subst (λ all. All (λ w. w.at < limit) all) (sym is) (All-append (λ w. w.at < limit) armed (write ∷ []) below one)
  where
    one : All (λ w. w.at < limit) (write ∷ [])
    one zero d lt = last
    one (suc k) d lt = absurd (omega (arith, lt))
below_pushed false armed new limit write is below last = subst (λ all. All (λ w. w.at < limit) all) (sym is) below

-- The number at which counting stops isn't armed, and neither is any later one.
pub torn_for_next : (armed : List Armed) (writes next : ℕ) → All (λ write. write.at < 2 ^ 64 - 1) armed
    → next ≡ one_more writes → torn_for next armed ≡ torn_for (writes + 1) armed
torn_for_next armed writes next below is = ⊎_elim
    (λ (counts : writes + 1 < 2 ^ 64 - 1).
    let same : next ≡ writes + 1 = omega (arith, is) in
    ap (λ n. torn_for n armed) same)
    (λ (stopped : 2 ^ 64 - 1 ≤ writes + 1).
    none_behind armed (2 ^ 64 - 1) next below (omega (arith, is))
    ∙ sym (none_behind armed (2 ^ 64 - 1) (writes + 1) below stopped))
    (cases_lt (writes + 1) (2 ^ 64 - 1))

-- The chip of a flash in memory, by its parts.
abbrev memory : ℕ → ℕ → Bool → List Armed → List ℕ → List ℕ → ℕ → ℕ → ℕ → Chip
memory size sectors on armed first bytes cuts erases writes =
    record (with_counts on cuts erases writes (new_chip size sectors bytes)) {
      fixed = armed_with armed (record unarmed { first = first });
    }

-- Two such chips are the same if their parts are.
pub same_memory : (size sectors : ℕ) (on : Bool) (armed : List Armed) (first bytes bytes' : List ℕ)
    (cuts cuts' erases erases' writes writes' : ℕ)
    → bytes ≡ bytes' → cuts ≡ cuts' → erases ≡ erases' → writes ≡ writes'
    → memory size sectors on armed first bytes cuts erases writes
    ≡ memory size sectors on armed first bytes' cuts' erases' writes'
same_memory size sectors on armed first bytes bytes' cuts cuts' erases erases' writes writes' b c e w =
    ap (λ x. memory size sectors on armed first x cuts erases writes) b
    ∙ ap (λ x. memory size sectors on armed first bytes' x erases writes) c
    ∙ ap (λ x. memory size sectors on armed first bytes' cuts' x writes) e
    ∙ ap (λ x. memory size sectors on armed first bytes' cuts' erases' x) w

-- A write that isn't armed is done.
pub writes_done : (at : ℕ) (range : List ℕ) (done old new : Chip) → old.is_on ≡ true
    → next_torn old ≡ None → new ≡ done → Writes (Ok tt) at range done old new
writes_done at range done old new on unarmed is = record {
  off = λ off. absurd (false≢true (sym off ∙ on));
  on = λ _ _. (refl, is);
  armed = λ left _ armed. absurd (none-some left (sym unarmed ∙ armed));
}

-- A write that is armed is interrupted.
pub writes_cut : (at : ℕ) (range : List ℕ) (left : Torn) (done old new : Chip) → old.is_on ≡ true
    → next_torn old ≡ Some left → new ≡ torn at range left old → Writes (Err Cut) at range done old new
writes_cut at range left done old new on armed is = record {
  off = λ off. absurd (false≢true (sym off ∙ on));
  on = λ _ unarmed. absurd (none-some left (sym unarmed ∙ armed));
  armed = λ other _ also.
      let same : left ≡ other = same_Some left other (sym armed ∙ also) in
      (refl, is ∙ ap (λ (t : Torn). torn at range t old) same);
}
