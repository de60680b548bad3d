-- Lemmas about numbers and separators in ASCII text.
use Rattle.std.proofs.Common.{◌≡◌, ℕ, ◌+◌, ◌%◌, ◌^◌, ◌<◌, ◌++◌, List, [], ◌∷◌, cond, eqb, ltb, ◌&&◌, Some, None, refl, sym, ap, ◌∙◌, inl, inr, arith}
use Rattle.std.specs.Prelude.{decimal, bytes_eq}
use Rattle.std.specs.Str.Parse.{digits_value}
use Rattle.std.proofs.lemmas.Bool.{cases_Bool, and_parts, lt-ltb, ltb-true, eq-eqb, eqb-true, ne_eqb, eqb-false}
use Rattle.std.proofs.lemmas.Fmt.{decimal_is_IsNumeral, decimal_by_steps}
use Rattle.std.proofs.lemmas.Option.{cond_some, option_and_then_some, none-some, same_Some}
use Rattle.std.proofs.lemmas.Slice.Eq.{bytes_eq-Decides}
use Rattle.common.specs.Ascii.{number_of, number_below, LacksByte, cut}

-- ---- numbers

-- A printed number is read back.
pub number_of-decimal : (n : ℕ) → n < 2 ^ 32 → number_of (decimal n) ≡ Some n
unfolding number_of
number_of-decimal n fits =
    let value : digits_value 10 (decimal n) ≡ n = (decimal_is_IsNumeral n (omega arith)).1 in
    rw (value, (bytes_eq-Decides (decimal n) (decimal n)).1 refl, lt-ltb n (2 ^ 32) fits) refl

-- A number that was read is printed as the same text.
pub number_of-spelled : (text : List ℕ) (n : ℕ) → number_of text ≡ Some n → (text ≡ decimal n) × (n < 2 ^ 32)
unfolding number_of
number_of-spelled text n read =
    let value = digits_value 10 text in
    let found = cond_some (bytes_eq (decimal value) text && ltb value (2 ^ 32)) value n read in
    let tests = and_parts (bytes_eq (decimal value) text) (ltb value (2 ^ 32)) found.0 in
    let same : decimal value ≡ text = (bytes_eq-Decides (decimal value) text).0 tests.0 in
    let below : value < 2 ^ 32 = ltb-true value (2 ^ 32) tests.1 in
    (sym same ∙ ap decimal found.1, omega (arith, found.1))

-- A printed number below a limit is read back.
pub number_below-decimal : (limit n : ℕ) → n < limit → n < 2 ^ 32 → number_below limit (decimal n) ≡ Some n
number_below-decimal limit n below fits = rw (number_of-decimal n fits, lt-ltb n limit below) refl

pub number_below-spelled : (limit : ℕ) (text : List ℕ) (n : ℕ) → number_below limit text ≡ Some n
    → (text ≡ decimal n) × (n < limit) × (n < 2 ^ 32)
number_below-spelled limit text n read =
    option_and_then_some (λ value. cond (ltb value limit) (Some value) None) (number_of text) n read
    (λ value first test.
    let found = cond_some (ltb value limit) value n test in
    let below : value < limit = ltb-true value limit found.0 in
    let spelled = number_of-spelled text value first in
    (spelled.0 ∙ ap decimal found.1, omega (arith, found.1), omega (arith, spelled.1, found.1)))

-- ---- bytes that a text lacks

pub LacksByte-append : (byte : ℕ) (xs ys : List ℕ) → LacksByte byte xs → LacksByte byte ys → LacksByte byte (xs ++ ys)
LacksByte-append byte [] ys front back = back
LacksByte-append byte (x ∷ xs) ys front back = (front.0, LacksByte-append byte xs ys front.1 back)

-- A printed number lacks each byte below 48, because it has digits only.
pub LacksByte-decimal : (byte n : ℕ) → n < 2 ^ 64 → byte < 48 → LacksByte byte (decimal n)
LacksByte-decimal byte n fits low =
    decimal_by_steps (λ k ds. LacksByte byte ds)
    (λ k one. (λ e. omega arith, tt))
    (λ k ds more front. LacksByte-append byte ds ((48 + k % 10) ∷ []) front (λ e. omega arith, tt))
    n fits

-- ---- cutting at a separator

-- A text is split at its first separator.
pub cut-found : (separator : ℕ) (before after : List ℕ) → LacksByte separator before
    → cut separator (before ++ separator ∷ after) ≡ (before, Some after)
unfolding cut
cut-found separator [] after lacks = rw (eq-eqb separator separator refl) refl
cut-found separator (b ∷ bs) after lacks = rw (ne_eqb b separator lacks.0, cut-found separator bs after lacks.1) refl

-- A text without a separator isn't split.
pub cut-missing : (separator : ℕ) (text : List ℕ) → LacksByte separator text → cut separator text ≡ (text, None)
unfolding cut
cut-missing separator [] lacks = refl
cut-missing separator (b ∷ bs) lacks = rw (ne_eqb b separator lacks.0, cut-missing separator bs lacks.1) refl

-- The two parts with the separator between them are the text.
pub cut-parts : (separator : ℕ) (text after : List ℕ) → (cut separator text).1 ≡ Some after
    → (text ≡ (cut separator text).0 ++ separator ∷ after)
unfolding cut
cut-parts separator [] after found = absurd (none-some after found)
cut-parts separator (b ∷ bs) after found =
    elim (cases_Bool (eqb b separator)) [
      | inl same ↦
          let rest : bs ≡ after = same_Some bs after (rw same at found) in
          rw (same, eqb-true b separator same, rest) refl
      | inr other ↦
          let rest = cut-parts separator bs after (rw other at found) in
          rw other (ap (λ (t : List ℕ). b ∷ t) rest)
    ]

pub cut-whole : (separator : ℕ) (text : List ℕ) → (cut separator text).1 ≡ None → (text ≡ (cut separator text).0)
unfolding cut
cut-whole separator [] missing = refl
cut-whole separator (b ∷ bs) missing =
    elim (cases_Bool (eqb b separator)) [
      | inl same ↦ absurd (none-some bs (sym (rw same at missing)))
      | inr other ↦ rw other (ap (λ (t : List ℕ). b ∷ t) (cut-whole separator bs (rw other at missing)))
    ]

-- The part before the separator lacks it.
pub LacksByte-cut : (separator : ℕ) (text : List ℕ) → LacksByte separator (cut separator text).0
unfolding cut
LacksByte-cut separator [] = tt
LacksByte-cut separator (b ∷ bs) =
    elim (cases_Bool (eqb b separator)) [
      | inl same ↦ rw same tt
      | inr other ↦ rw other (eqb-false b separator other, LacksByte-cut separator bs)
    ]
