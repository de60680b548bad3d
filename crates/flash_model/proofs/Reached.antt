-- Lemmas about `reached`, the number of armed writes that a flash took, when the flash takes one
-- more.
use Rattle.std.proofs.Common.{◌≡◌, ℕ, zero, suc, ◌+◌, ◌-◌, ◌^◌, ◌<◌, ◌≤◌, ◌==◌, ◌||◌, true, false, List, [], ◌∷◌, ◌++◌}
use Rattle.std.proofs.Common.{Bool, Some, None, refl, sym, ◌∙◌, ap, arith, ⊎_elim}
use Rattle.std.specs.Prelude.{find, if◌then◌else◌, map, option_map}
use Rattle.std.specs.List.{list_any}
use Rattle.std.specs.Option.{is_some}
use Rattle.std.proofs.lemmas.Bool.{cases_Bool, cases_lt, ne_eqb}
use Rattle.std.proofs.lemmas.List.{map-append}
use Rattle.std.proofs.lemmas.Option.{none-some}
use Rattle.flash_model.specs.declared.torn.Armed.{Armed}
use Rattle.flash_model.specs.declared.torn.Torn.{Torn}
use Rattle.flash_model.specs.Chip.{numbers_of, reached}
use Rattle.flash_model.specs.Memory.{one_more}
use Rattle.flash_model.specs.Torn.{torn_for}

-- A write whose number is in the list counts.
pub reached_one : (numbers : List ℕ) (n : ℕ) → list_any (λ number. number == suc n) numbers ≡ true
    → reached numbers (suc n) ≡ reached numbers n + 1
reached_one numbers n is = rw is refl

-- A write whose number isn't in the list doesn't count.
pub reached_none : (numbers : List ℕ) (n : ℕ) → list_any (λ number. number == suc n) numbers ≡ false
    → reached numbers (suc n) ≡ reached numbers n
reached_none numbers n is = rw is refl

-- A number after the counted writes changes nothing, and neither does 0.
pub reached_beside : (numbers : List ℕ) (k n : ℕ) → (1 ≤ k → n < k)
    → reached (numbers ++ k ∷ []) n ≡ reached numbers n
reached_beside numbers k zero beside = refl
reached_beside numbers k (suc n) beside =
    let before : reached (numbers ++ k ∷ []) n ≡ reached numbers n =
    reached_beside numbers k n (λ some. omega (arith, beside some)) in
    let other : (k == suc n) ≡ false = ne_eqb k (suc n) (λ same. absurd (omega (arith, same, beside (omega (arith, same))))) in
    let same : list_any (λ number. number == suc n) (numbers ++ k ∷ [])
    ≡ list_any (λ number. number == suc n) numbers = both numbers n other in
    rw (same, before) refl
  where
    both : (numbers : List ℕ) (n : ℕ) → (k == suc n) ≡ false
        → list_any (λ number. number == suc n) (numbers ++ k ∷ []) ≡ list_any (λ number. number == suc n) numbers
    both [] n other = rw other refl
    both (first ∷ rest) n other = ap (λ b. (first == suc n) || b) (both rest n other)

-- The numbers after one more write was armed.
pub numbers_more : (armed : List Armed) (write : Armed) → numbers_of (armed ++ write ∷ []) ≡ numbers_of armed ++ write.at ∷ []
numbers_more armed write = map-append (λ (w : Armed). w.at) armed (write ∷ [])

-- A number is in a list of keys exactly if a row with this key is found.
pub any_of_rows : {X Y : Type 0} (key : X → ℕ) (value : X → Y) (number : ℕ) (rows : List X)
    → list_any (λ n. n == number) (map key rows)
    ≡ is_some (option_map value (find (λ row. key row == number) rows))
any_of_rows key value number [] = refl
any_of_rows key value number (row ∷ rows) = ⊎_elim
    (λ (is : (key row == number) ≡ true). rw is refl)
    (λ (isnt : (key row == number) ≡ false). rw isnt (any_of_rows key value number rows))
    (cases_Bool (key row == number))

-- A number for which no row is found doesn't count.
pub reached_no_row : {X Y : Type 0} (key : X → ℕ) (value : X → Y) (rows : List X) (n : ℕ)
    → option_map value (find (λ row. key row == suc n) rows) ≡ None
    → reached (map key rows) (suc n) ≡ reached (map key rows) n
reached_no_row key value rows n none =
    reached_none (map key rows) n (any_of_rows key value (suc n) rows ∙ ap is_some none)

-- A number for which a row is found counts.
pub reached_row : {X Y : Type 0} (key : X → ℕ) (value : X → Y) (rows : List X) (n : ℕ) (found : Y)
    → option_map value (find (λ row. key row == suc n) rows) ≡ Some found
    → reached (map key rows) (suc n) ≡ reached (map key rows) n + 1
reached_row key value rows n found some =
    reached_one (map key rows) n (any_of_rows key value (suc n) rows ∙ ap is_some some)

-- A write that isn't armed adds nothing to the count.
pub reached_unarmed : (armed : List Armed) (writes next : ℕ) → writes < 2 ^ 64 → next ≡ one_more writes
    → torn_for next armed ≡ None → reached (numbers_of armed) next ≡ reached (numbers_of armed) writes
reached_unarmed armed writes next below is none = ⊎_elim
    (λ (counts : writes + 1 < 2 ^ 64).
    let same : next ≡ suc writes = omega (arith, is) in
    rw same (reached_no_row (λ (write : Armed). write.at) (λ (write : Armed). write.torn) armed writes (rw same at none)))
    (λ (stopped : 2 ^ 64 ≤ writes + 1). ap (λ n. reached (numbers_of armed) n) (omega (arith, is)))
    (cases_lt (writes + 1) (2 ^ 64))

-- A write that is armed adds one to the count. No write is armed from the number at which counting
-- ends.
pub reached_armed : (armed : List Armed) (writes next : ℕ) (left : Torn) → next ≡ one_more writes
    → (2 ^ 64 - 1 ≤ next → torn_for next armed ≡ None) → torn_for next armed ≡ Some left
    → reached (numbers_of armed) next ≡ reached (numbers_of armed) writes + 1
reached_armed armed writes next left is past some = ⊎_elim
    (λ (counts : writes + 1 < 2 ^ 64 - 1).
    let same : next ≡ suc writes = omega (arith, is) in
    rw same (reached_row (λ (write : Armed). write.at) (λ (write : Armed). write.torn) armed writes left (rw same at some)))
    (λ (stopped : 2 ^ 64 - 1 ≤ writes + 1).
    absurd (none-some left (sym (past (omega (arith, is))) ∙ some)))
    (cases_lt (writes + 1) (2 ^ 64 - 1))

-- Arming a write that is yet to come doesn't change the count.
pub reached_pushed : (pushed : Bool) (armed new : List Armed) (write : Armed) (writes : ℕ)
    → new ≡ (if pushed then armed ++ write ∷ [] else armed) → (1 ≤ write.at → writes < write.at)
    → reached (numbers_of new) writes ≡ reached (numbers_of armed) writes
reached_pushed true armed new write writes is beside =
    ap (λ all. reached (numbers_of all) writes) is ∙ ap (λ all. reached all writes) (numbers_more armed write)
    ∙ reached_beside (numbers_of armed) write.at writes beside
reached_pushed false armed new write writes is beside = ap (λ all. reached (numbers_of all) writes) is
