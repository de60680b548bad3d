-- `parse` of a text without padding returns the number of 64 bits whose decimal text it is.
use Rattle.std.proofs.Common.{◌≡◌, ◌≢◌, ℕ, ◌^◌, ◌<◌, List, length, get_or, None, Bor, Result, Ok, Err, sym, ap, ◌∙◌, inl, inr, arith}
use Rattle.std.specs.Prelude.{decimal, IfSome, IfNone}
use Rattle.std.specs.Result.{result_ok}
use Rattle.std.specs.declared.str.Utf8Error.{Utf8Error}
use Rattle.std.specs.Str.Parse.{AllDigits, ParsesUnsigned, digits_value}
use Rattle.std.proofs.lemmas.Bool.{cases_lt}
use Rattle.std.proofs.lemmas.Fmt.{decimal_digit, decimal_is_IsNumeral, first_decimal, decimal-digits_value, IsAscii-decimal}
use Rattle.std.proofs.lemmas.Option.{none-some}
use Rattle.std.proofs.lemmas.Str.{IsUtf8-from_ascii}
use Rattle.std.proofs.lemmas.Str.Parse.{IsNumeralModel, numerals_by_value, tells_digits, parse_plain}
use Rattle.common.specs.Ascii.{IsPadded}
use Rattle.common.proofs.Numbers.{Decodes}

-- The text isn't that of a number of 64 bits.
abbrev pub IsOther : List ℕ → Type 0
IsOther text = (n : ℕ) → n < 2 ^ 64 → text ≢ decimal n

-- No number is printed with a plus sign, or with a zero before other digits.
decimal_begins : (n : ℕ) → n < 2 ^ 64 → IsPadded (decimal n) → ⊥
decimal_begins n fits padded =
    elim (cases_lt 0 n) [
      | inl some ↦
          let first = first_decimal n some fits in
          elim padded [ inl plus ↦ omega arith | inr zero ↦ omega (arith, zero.0) ]
      | inr none ↦
          let is = decimal_digit n (omega arith) in
          let first = ap (λ (t : List ℕ). get_or t 0 0) is in
          let len = ap (λ (t : List ℕ). length t) is in
          elim padded [ inl plus ↦ omega arith | inr zero ↦ omega (arith, zero.1) ]
    ]

pub padded_is_other : (text : List ℕ) → IsPadded text → IsOther text
padded_is_other text padded n fits e = decimal_begins n fits (rw e at padded)

-- Bytes that aren't UTF-8 aren't the text of a number.
pub undecoded_is_other : (text : List ℕ) (r : Result (Bor (List ℕ)) Utf8Error) → Decodes text r
    → None ≡ result_ok r
    → IsOther text
undecoded_is_other text (Ok x) decodes none = absurd (none-some x none)
undecoded_is_other text (Err e) decodes none = λ n fits same.
    decodes.0 (rw same (IsUtf8-from_ascii (decimal n) (IsAscii-decimal n fits)))

own : IsNumeralModel (AllDigits 10) (digits_value 10)
own = numerals_by_value (AllDigits 10) tells_digits

-- The decimal text of the parsed number is the text.
pub parsed_is_printed : {E : Type 0} (text : List ℕ) (r : Result ℕ E) → (IsPadded text → ⊥)
    → ParsesUnsigned 64 10 text r
    → IfSome (result_ok r) (λ n. text ≡ decimal n)
parsed_is_printed {E} text (Ok n) plain parsed =
    let p = parse_plain own {E = E} 64 text (Ok n) parsed (λ plus. plain (inl plus)) in
    let value = digits_value 10 text in
    let one : get_or text 0 0 ≡ 48 → length text ≡ 1 = λ zero. elim (cases_lt 1 (length text)) [
      | inl long ↦ absurd (plain (inr (zero, long)))
      | inr short ↦ omega (arith, p.0.1)
    ] in
    let printed : decimal value ≡ text = decimal-digits_value own text p.0.0 p.0.1 one (omega (arith, p.0.2)) in
    sym printed ∙ ap decimal (sym p.1)
parsed_is_printed {E} text (Err e) plain parsed = tt

-- A text that isn't parsed isn't that of a number.
pub unparsed_is_other : {E : Type 0} (text : List ℕ) (r : Result ℕ E) → (IsPadded text → ⊥)
    → ParsesUnsigned 64 10 text r
    → IfNone (result_ok r) (IsOther text)
unparsed_is_other {E} text (Ok n) plain parsed = tt
unparsed_is_other {E} text (Err e) plain parsed = λ n fits same.
    let p = parse_plain own {E = E} 64 text (Err e) parsed (λ plus. plain (inl plus)) in
    let numeral = decimal_is_IsNumeral n fits in
    let value : digits_value 10 text ≡ n = ap (digits_value 10) same ∙ numeral.1 in
    p (rw (← same) at numeral.0.1, rw (← same) at numeral.0.0, omega arith)
