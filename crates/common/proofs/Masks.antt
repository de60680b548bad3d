-- Lemmas about masks: a mask whose images are all below a number is 0 when it is shifted by it.
use Rattle.std.proofs.Common.{◌≡◌, ℕ, zero, suc, ◌+◌, ◌-◌, ◌/◌, ◌%◌, ◌^◌, ◌<◌, ◌≤◌, Bool, true, false, ◌*◌, ◌==◌, List, [], ◌∷◌, length, get_or, if◌then◌else◌, arith, ap, ⊎_elim, sym, ◌∙◌, refl, map, take, take_all, Option, Some, None, option_map, unwrap_or, slice_get}
use Rattle.std.specs.Option.{option_map_or}
use Rattle.std.proofs.lemmas.Option.{slice_get-map, unwrap_or-slice_get}
use Rattle.std.proofs.lemmas.Bool.{cases_lt}
use Rattle.std.proofs.lemmas.Bool.Decides.{nat_tests}
use Rattle.std.proofs.lemmas.Nat.{pow-add}
use Rattle.std.proofs.Math.Nat.{div-one, div-le_self, div-div-eq-div-mul, pow-succ'}
use Rattle.common.specs.Masks.{is_member}

-- Shifting a shifted mask is one shift by the sum.
shifted : (mask n i : ℕ) → mask / 2 ^ n / 2 ^ i ≡ mask / 2 ^ (n + i)
shifted mask n i = div-div-eq-div-mul mask (2 ^ n) (2 ^ i) ∙ ap (λ p. mask / p) (sym (pow-add 2 n i))

-- If a shifted mask is 0, each image of the mask is below the shift.
pub below_shift : (mask n i : ℕ) → mask / 2 ^ n ≡ 0 → is_member mask i ≡ true → i < n
unfolding is_member
below_shift mask n i none member = ⊎_elim (λ (below : i < n). below)
    (λ (ge : n ≤ i).
    let apart : n + (i - n) ≡ i = omega arith in
    let gone : mask / 2 ^ i ≡ 0 / 2 ^ (i - n) = ap (λ k. mask / 2 ^ k) (sym apart)
    ∙ sym (shifted mask n (i - n)) ∙ ap (λ q. q / 2 ^ (i - n)) none in
    let zero_is : 0 / 2 ^ (i - n) ≡ 0 = omega (arith, div-le_self 0 (2 ^ (i - n))) in
    absurd (grind (arith, nat_tests, ap (λ q. q % 2) (gone ∙ zero_is), member)))
    (cases_lt i n)

-- The number whose bits, from the lowest on, are those of a list.
abbrev pub mask_in : List Bool → ℕ
mask_in [] = 0
mask_in (b ∷ bs) = 2 * mask_in bs + (if b then 1 else 0)

bit_small : (b : Bool) → (if b then 1 else 0) < 2
bit_small true = omega arith
bit_small false = omega arith

-- This number is below 2 to the power of the list's length.
pub mask_below : (n : ℕ) (bs : List Bool) → length bs ≤ n → mask_in bs < 2 ^ n
mask_below zero [] le = omega arith
mask_below zero (b ∷ bs) le = absurd (omega (arith, le))
mask_below (suc n) [] le = omega (arith, mask_below n [] (omega arith), pow-succ' 2 n)
mask_below (suc n) (b ∷ bs) le =
    omega (arith, mask_below n bs (omega (arith, le)), pow-succ' 2 n, bit_small b)

bit_told : (b : Bool) (m : ℕ) → ((2 * m + (if b then 1 else 0)) / 2 ^ 0 % 2 == 1) ≡ b
bit_told true m =
    let odd : (2 * m + 1) / 2 ^ 0 % 2 ≡ 1 = ap (λ x. x % 2) (div-one (2 * m + 1)) ∙ omega arith in
    ap (λ x. x == 1) odd
bit_told false m =
    let even : (2 * m + 0) / 2 ^ 0 % 2 ≡ 0 = ap (λ x. x % 2) (div-one (2 * m + 0)) ∙ omega arith in
    ap (λ x. x == 1) even

no_member : (i : ℕ) → is_member 0 i ≡ false
unfolding is_member
no_member i =
    let none : 0 / 2 ^ i ≡ 0 = omega (arith, div-le_self 0 (2 ^ i)) in
    ap (λ q. q % 2 == 1) none

none_behind : (i : ℕ) → get_or {A = Bool} [] i false ≡ false
none_behind zero = refl
none_behind (suc i) = refl

-- The members of this mask are those of the list.
pub members_in : (bs : List Bool) (i : ℕ) → is_member (mask_in bs) i ≡ get_or bs i false
unfolding is_member
members_in [] i = no_member i ∙ sym (none_behind i)
members_in (b ∷ bs) zero = bit_told b (mask_in bs)
members_in (b ∷ bs) (suc i) =
    let half : (2 * mask_in bs + (if b then 1 else 0)) / 2 ≡ mask_in bs = omega (arith, bit_small b) in
    let shift : (2 * mask_in bs + (if b then 1 else 0)) / 2 ^ suc i ≡ mask_in bs / 2 ^ i =
    ap (λ p. (2 * mask_in bs + (if b then 1 else 0)) / p) (pow-succ' 2 i)
    ∙ sym (div-div-eq-div-mul (2 * mask_in bs + (if b then 1 else 0)) 2 (2 ^ i)) ∙ ap (λ q. q / 2 ^ i) half in
    ap (λ q. q % 2 == 1) shift ∙ members_in bs i

same_bit : (x y : ℕ) → (x % 2 == 1) ≡ (y % 2 == 1) → x % 2 ≡ y % 2
same_bit x y is = grind (arith, nat_tests, is)

-- Numbers with the same bits are equal.
same_bits : (k a b : ℕ) → a < 2 ^ k → b < 2 ^ k → ((i : ℕ) → (a / 2 ^ i % 2 == 1) ≡ (b / 2 ^ i % 2 == 1)) → a ≡ b
same_bits zero a b small less same = omega arith
same_bits (suc k) a b small less same =
    let last : a % 2 ≡ b % 2 =
    same_bit a b (ap (λ x. x % 2 == 1) (sym (div-one a)) ∙ same 0 ∙ ap (λ x. x % 2 == 1) (div-one b)) in
    let half : a / 2 ≡ b / 2 = same_bits k (a / 2) (b / 2) (omega (arith, pow-succ' 2 k)) (omega (arith, pow-succ' 2 k))
    (λ i. ap (λ x. x % 2 == 1) (shift a i) ∙ same (suc i) ∙ sym (ap (λ x. x % 2 == 1) (shift b i))) in
    omega arith
  where
    shift : (x i : ℕ) → x / 2 / 2 ^ i ≡ x / 2 ^ suc i
    shift x i = div-div-eq-div-mul x 2 (2 ^ i) ∙ ap (λ p. x / p) (sym (pow-succ' 2 i))

beyond : (mask n : ℕ) → ((i : ℕ) → is_member mask i ≡ true → i < n) → (i : ℕ) → is_member mask (n + i) ≡ false
beyond mask n all i = by (is_member mask (n + i)) refl
  where
    by : (b : Bool) → is_member mask (n + i) ≡ b → is_member mask (n + i) ≡ false
    by true member = absurd (omega (arith, all (n + i) member))
    by false clear = clear

-- If each image of a mask is below the shift, the shifted mask is 0.
pub shift_below : (mask n : ℕ) → mask < 2 ^ 8 → ((i : ℕ) → is_member mask i ≡ true → i < n) → mask / 2 ^ n ≡ 0
unfolding is_member
shift_below mask n small all = same_bits 8 (mask / 2 ^ n) 0 (omega (arith, div-le_self mask (2 ^ n))) (omega arith)
    (λ i. ap (λ q. q % 2 == 1) (shifted mask n i) ∙ beyond mask n all i ∙ sym (no_member i))

pub same_members : (a b : ℕ) → a < 2 ^ 8 → b < 2 ^ 8 → ((i : ℕ) → is_member a i ≡ is_member b i) → a ≡ b
unfolding is_member
same_members a b small less same = same_bits 8 a b small less same

of_option : {A : Type 0} (test : A → Bool) (found : Option A)
    → unwrap_or (option_map test found) false ≡ option_map_or test found false
of_option test None = refl
of_option test (Some it) = refl

-- A list of what a test says of each element says at each place what the test says there.
pub told_of : {A : Type 0} (test : A → Bool) (all : List A) (n : ℕ) (told : List Bool) → length all ≤ n
    → told ≡ map test (take n all) → (i : ℕ) → get_or told i false ≡ option_map_or test (slice_get all i) false
told_of test all n told past is i =
    ap (λ l. get_or l i false) (is ∙ ap (map test) (take_all n all past))
    ∙ sym (unwrap_or-slice_get (map test all) i false)
    ∙ ap (λ o. unwrap_or o false) (slice_get-map test all i)
    ∙ of_option test (slice_get all i)
