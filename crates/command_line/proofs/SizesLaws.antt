-- Laws of the digits of sizes, and of texts of them.
use Rattle.std.proofs.Common.{◌≡◌, ℕ, zero, suc, ◌-◌, ◌||◌, eqb, ◌<◌, ◌≤◌, ◌^◌, [], ◌∷◌, length, get_or, Some, None, Bor, Result, Ok, Err, false, leb, lit<, ltb, true, refl, ap, ◌∙◌, inl, inr, arith}
use Rattle.std.specs.Prelude.{IsUtf8, decimal}
use Rattle.std.specs.Char.{digit_value, is_ascii_hexdigit}
use Rattle.std.specs.Int.{is_in_range}
use Rattle.std.specs.List.{list_all}
use Rattle.std.specs.Result.{result_ok}
use Rattle.std.specs.declared.str.Utf8Error.{Utf8Error}
use Rattle.std.specs.Str.{IsAscii}
use Rattle.std.specs.Str.Parse.{AllDigits, ParsesUnsigned, digits_value}
use Rattle.std.proofs.lemmas.Bool.{and_parts, cases_lt, le-ltb, leb-true, lt-leb, lt-ltb, ne_eqb, or_cases}
use Rattle.std.proofs.Math.Bool.{and-false}
use Rattle.std.proofs.lemmas.Str.{IsUtf8-from_ascii}
use Rattle.std.proofs.lemmas.Fmt.{decimal_is_IsNumeral}
use Rattle.std.proofs.lemmas.Str.Parse.{digit_at, without_leading_plus_none}
use Rattle.std.proofs.lemmas.Option.{none-some}
use Rattle.clap.specs.Words.{Text}
use Rattle.common.proofs.AsciiLaws.{number_of-decimal}
use Rattle.common.proofs.Numbers.{Decodes}
use Rattle.command_line.specs.Sizes.{begins_hexadecimal, ends_in, hexadecimal_of, size_of}

-- The bounds that a test of a range tells.
in_range : (low high c : ℕ) → is_in_range low high c ≡ true → (low ≤ c) × (c ≤ high)
in_range low high c within =
    let parts = and_parts (leb low c) (leb c high) within in (leb-true low c parts.0, leb-true c high parts.1)

-- A hexadecimal digit is below 16, and has its place in ASCII.
abbrev pub IsHexadecimal : ℕ → Type 0
IsHexadecimal c = (digit_value c < 16) × (48 ≤ c) × (c < 128)

decimal_digit : (c : ℕ) → 48 ≤ c → c ≤ 57 → IsHexadecimal c
decimal_digit c low high =
    rw (le-ltb c 48 low, lt-ltb c 58 (omega arith)) (omega arith, omega arith, omega arith)

capital : (c : ℕ) → 65 ≤ c → c ≤ 70 → IsHexadecimal c
capital c low high =
    rw (le-ltb c 48 (omega arith), le-ltb c 58 (omega arith), le-ltb c 65 low, lt-ltb c 91 (omega arith))
    (omega arith, omega arith, omega arith)

small : (c : ℕ) → 97 ≤ c → c ≤ 102 → IsHexadecimal c
small c low high =
    rw (
      le-ltb c 48 (omega arith),
      le-ltb c 58 (omega arith),
      le-ltb c 65 (omega arith),
      le-ltb c 91 (omega arith),
      le-ltb c 97 low,
      lt-ltb c 123 (omega arith),
    )
    (omega arith, omega arith, omega arith)

hexadecimal_digit : (c : ℕ) → is_ascii_hexdigit c ≡ true → IsHexadecimal c
hexadecimal_digit c digit =
    elim (or_cases (is_in_range 48 57 c || is_in_range 65 70 c) (is_in_range 97 102 c) digit) [
      | inl one ↦
          elim (or_cases (is_in_range 48 57 c) (is_in_range 65 70 c) one) [
            | inl within ↦ let at = in_range 48 57 c within in decimal_digit c at.0 at.1
            | inr within ↦ let at = in_range 65 70 c within in capital c at.0 at.1
          ]
      | inr within ↦ let at = in_range 97 102 c within in small c at.0 at.1
    ]

-- Hexadecimal digits are digits in the radix 16.
all_hexadecimal : (text : Text) → list_all is_ascii_hexdigit text ≡ true → AllDigits 16 text
all_hexadecimal [] digits = tt
all_hexadecimal (c ∷ cs) digits =
    let parts = and_parts (is_ascii_hexdigit c) (list_all is_ascii_hexdigit cs) digits in
    ((hexadecimal_digit c parts.0).0, all_hexadecimal cs parts.1)

all_ascii : (text : Text) → list_all is_ascii_hexdigit text ≡ true → IsAscii text
all_ascii [] digits i = omega arith
all_ascii (c ∷ cs) digits zero =
    let parts = and_parts (is_ascii_hexdigit c) (list_all is_ascii_hexdigit cs) digits in
    (hexadecimal_digit c parts.0).2
all_ascii (c ∷ cs) digits (suc i) =
    let parts = and_parts (is_ascii_hexdigit c) (list_all is_ascii_hexdigit cs) digits in all_ascii cs parts.1 i

-- They are text.
hexadecimal_is_text : (text : Text) → list_all is_ascii_hexdigit text ≡ true → IsUtf8 text
hexadecimal_is_text text digits = IsUtf8-from_ascii text (all_ascii text digits)

-- So `from_utf8` doesn't refuse them.
pub is_decoded : (text : Text) (r : Result (Bor Text) Utf8Error) → list_all is_ascii_hexdigit text ≡ true
    → Decodes text r → None ≡ result_ok r → ⊥
is_decoded text (Ok x) digits decodes none = none-some x none
is_decoded text (Err e) digits decodes none = decodes.0 (hexadecimal_is_text text digits)

-- The first of them is no plus sign.
first_hexadecimal : (text : Text) → list_all is_ascii_hexdigit text ≡ true → get_or text 0 0 ≡ 43 → ⊥
first_hexadecimal [] digits plus = omega (arith, plus)
first_hexadecimal (c ∷ cs) digits plus =
    let parts = and_parts (is_ascii_hexdigit c) (list_all is_ascii_hexdigit cs) digits in
    omega (arith, plus, (hexadecimal_digit c parts.0).1)

-- Texts with another byte spell no number.
pub no_digits : (text : Text) → list_all is_ascii_hexdigit text ≡ false → hexadecimal_of text ≡ None
unfolding hexadecimal_of
no_digits text none = rw (none, and-false (ltb 0 (length text))) refl

-- What `from_str_radix` returns for such digits.
pub digits_parsed : {E : Type 0} (text : Text) (r : Result ℕ E) → list_all is_ascii_hexdigit text ≡ true
    → ParsesUnsigned 32 16 text r
    → result_ok r ≡ hexadecimal_of text
unfolding hexadecimal_of
digits_parsed {E} text (Ok n) digits parsed =
    let read = rw (without_leading_plus_none text (first_hexadecimal text digits)) at parsed in
    rw (lt-ltb 0 (length text) read.0.0.0, digits, lt-ltb (digits_value 16 text) (2 ^ 32) read.0.1) (ap Some read.1)
digits_parsed {E} text (Err e) digits parsed =
    let unread = rw (without_leading_plus_none text (first_hexadecimal text digits)) at parsed in
    elim (cases_lt 0 (length text)) [
      | inl some ↦
          elim (cases_lt (digits_value 16 text) (2 ^ 32)) [
            | inl fits ↦ absurd (unread ((some, all_hexadecimal text digits), fits))
            | inr large ↦ rw (lt-ltb 0 (length text) some, digits, le-ltb (digits_value 16 text) (2 ^ 32) large) refl
          ]
      | inr none ↦ rw (le-ltb 0 (length text) none) refl
    ]

-- ---- decimal numbers

-- A byte of a printed number is a digit, so it is no other byte.
no_other : (n i byte : ℕ) → n < 2 ^ 32 → i < length (decimal n) → 57 < byte
    → eqb (get_or (decimal n) i 0) byte ≡ false
no_other n i byte fits within high =
    let digits = (decimal_is_IsNumeral n (omega arith)).0.1 in
    ne_eqb (get_or (decimal n) i 0) byte (λ same. omega (arith, same, (digit_at (decimal n) i digits within).1))

not_hexadecimal : (n : ℕ) → n < 2 ^ 32 → begins_hexadecimal (decimal n) ≡ false
not_hexadecimal n fits =
    elim (cases_lt 1 (length (decimal n))) [
      | inl long ↦ rw (no_other n 1 120 fits long (lit< tt), and-false) refl
      | inr short ↦ rw (lt-leb 2 (length (decimal n)) (omega (arith, short))) refl
    ]

no_unit : (n byte : ℕ) → n < 2 ^ 32 → 57 < byte → ends_in byte (decimal n) ≡ false
no_unit n byte fits high =
    let some = (decimal_is_IsNumeral n (omega arith)).0.0 in
    rw (no_other n (length (decimal n) - 1) byte fits (omega arith) high, and-false) refl

-- A printed number is read back.
size_of-decimal : (n : ℕ) → n < 2 ^ 32 → size_of (decimal n) ≡ Some n
size_of-decimal n fits =
    rw (
      not_hexadecimal n fits,
      no_unit n 107 fits (lit< tt),
      no_unit n 75 fits (lit< tt),
      no_unit n 77 fits (lit< tt),
    ) (number_of-decimal n fits)

-- So a text that is a printed number is read as that number.
pub size_of_printed : (text : Text) (n : ℕ) → n < 2 ^ 32 → text ≡ decimal n → size_of text ≡ Some n
size_of_printed text n fits same = ap size_of same ∙ size_of-decimal n fits
