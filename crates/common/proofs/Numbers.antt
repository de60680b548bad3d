-- Lemmas by which `parse` returns the number that a text spells.
use Rattle.std.proofs.Common.{◌≡◌, ◌≢◌, ℕ, ◌+◌, ◌^◌, ◌<◌, ◌≤◌, List, [], ◌∷◌, length, get_or, Option, Some, None, Bor, MatchResult, Result, Ok, Err, refl, sym, ap, ◌∙◌, inl, inr, arith}
use Rattle.std.specs.Prelude.{decimal, IsUtf8, IfNone, IfOk, IfSome}
use Rattle.std.specs.Result.{result_ok}
use Rattle.std.specs.declared.str.Utf8Error.{Utf8Error}
use Rattle.std.specs.Str.{IsValidUpTo, valid_up_to}
use Rattle.std.specs.Str.Parse.{AllDigits, ParsesUnsigned, digits_value}
use Rattle.std.proofs.lemmas.Bool.{cases_lt}
use Rattle.std.proofs.lemmas.Fmt.{decimal_digit, decimal_is_IsNumeral, first_decimal, decimal-digits_value, IsAscii-decimal}
use Rattle.std.proofs.lemmas.Str.{IsUtf8-from_ascii}
use Rattle.std.proofs.lemmas.Str.Parse.{IsNumeralModel, numerals_by_value, tells_digits, parse_plain}
use Rattle.std.proofs.lemmas.Option.{none-some, same_Some}
use Rattle.common.specs.Ascii.{IsPadded, number_of}
use Rattle.common.proofs.AsciiLaws.{number_of-decimal, number_of-spelled}

-- The text isn't that of a number below the limit.
abbrev pub IsOther : List ℕ → Type 0
IsOther text = (n : ℕ) → n < 2 ^ 32 → text ≢ decimal n

-- Such a text isn't read.
number_of-other : (text : List ℕ) → IsOther text → None ≡ number_of text
number_of-other text other =
    elim (number_of text) as (λ o. ((n : ℕ) → o ≡ Some n → ⊥) → None ≡ o) [
      | None ↦ λ _. refl
      | Some n ↦ λ h. absurd (h n refl)
    ] (λ n read. let spelled = number_of-spelled text n read in other n spelled.1 spelled.0)

-- A number that was read is printed as the text.
pub IfSome_number : (text : List ℕ) (result : Option ℕ) → result ≡ number_of text
    → IfSome result (λ n. text ≡ decimal n)
IfSome_number text None read = tt
IfSome_number text (Some n) read = (number_of-spelled text n (sym read)).0

-- A text that wasn't read is never printed.
pub IfNone_number : (text : List ℕ) (result : Option ℕ) → result ≡ number_of text → IfNone result (IsOther text)
IfNone_number text None read = λ n fits e. none-some n (read ∙ ap number_of e ∙ number_of-decimal n fits)
IfNone_number text (Some n) read = tt

-- No printed number begins so.
decimal_begins : (n : ℕ) → n < 2 ^ 32 → IsPadded (decimal n) → ⊥
decimal_begins n fits padded =
    elim (cases_lt 0 n) [
      | inl some ↦
          let first = first_decimal n some (omega arith) in
          elim padded [ inl plus ↦ omega arith | inr zero ↦ omega (arith, zero.0) ]
      | inr none ↦
          let is : decimal n ≡ (48 + n) ∷ [] = decimal_digit n (omega arith) in
          let first = ap (λ (t : List ℕ). get_or t 0 0) is in
          let len = ap (λ (t : List ℕ). length t) is in
          elim padded [ inl plus ↦ omega arith | inr zero ↦ omega (arith, zero.1) ]
    ]

pub padded_is_other : (text : List ℕ) → IsPadded text → IsOther text
padded_is_other text padded n fits e = decimal_begins n fits (rw e at padded)

no_text_is_other : (text : List ℕ) → (IsUtf8 text → ⊥) → IsOther text
no_text_is_other text no_text n fits e =
    no_text (rw e (IsUtf8-from_ascii (decimal n) (IsAscii-decimal n (omega arith))))

-- The contract of `from_utf8`.
abbrev pub Decodes : List ℕ → Result (Bor (List ℕ)) Utf8Error → Type 0
Decodes text r =
    MatchResult r (λ s. (s.now ≡ text) × IsUtf8 text) (λ e. ¬ (IsUtf8 text) × IsValidUpTo text (valid_up_to e))

-- What `from_utf8` says of a text that it refuses, and of one that it accepts.
no_text_at_none : (text : List ℕ) (r : Result (Bor (List ℕ)) Utf8Error) → Decodes text r → None ≡ result_ok r
    → ¬ (IsUtf8 text)
no_text_at_none text (Ok x) decodes none = absurd (none-some x none)
no_text_at_none text (Err e) decodes none = decodes.0

pub same_text_at_some : (text : List ℕ) (r : Result (Bor (List ℕ)) Utf8Error) (x : Bor (List ℕ)) → Decodes text r
    → Some x ≡ result_ok r
    → x.now ≡ text
same_text_at_some text (Ok y) x decodes some = ap (λ (s : Bor (List ℕ)). s.now) (same_Some x y some) ∙ decodes.0
same_text_at_some text (Err e) x decodes some = absurd (none-some x (sym some))

own : IsNumeralModel (AllDigits 10) (digits_value 10)
own = numerals_by_value (AllDigits 10) tells_digits

-- If `parse` reads a text that doesn't begin so, the number is printed as the text. This holds for any
-- width of at most 64 bits.
pub printed_if_parsed : {E : Type 0} (bits : ℕ) (text : List ℕ) (r : Result ℕ E) → 2 ^ bits ≤ 2 ^ 64
    → (IsPadded text → ⊥) → ParsesUnsigned bits 10 text r
    → IfOk r (λ n. (text ≡ decimal n) × (n < 2 ^ bits))
printed_if_parsed {E} bits text (Ok n) narrow plain parsed =
    let p = parse_plain own {E = E} bits text (Ok n) parsed (λ plus. plain (inl plus)) in
    let one : get_or text 0 0 ≡ 48 → length text ≡ 1 = λ zero. elim (cases_lt 1 (length text)) [
      | inl long ↦ absurd (plain (inr (zero, long)))
      | inr short ↦ omega (arith, p.0.1)
    ] in
    let printed : decimal (digits_value 10 text) ≡ text =
    decimal-digits_value own text p.0.0 p.0.1 one (omega (arith, p.0.2, narrow)) in
    (sym printed ∙ ap decimal (sym p.1), omega (arith, p.0.2, p.1))
printed_if_parsed {E} bits text (Err e) narrow plain parsed = tt

-- A text that doesn't begin so is read by `parse`.
pub number_of_parsed : {E : Type 0} (text : List ℕ) (r : Result ℕ E) → (IsPadded text → ⊥)
    → ParsesUnsigned 32 10 text r
    → result_ok r ≡ number_of text
number_of_parsed {E} text (Ok n) plain parsed =
    let p = printed_if_parsed {E = E} 32 text (Ok n) (omega arith) plain parsed in
    sym (number_of-decimal n p.1) ∙ ap number_of (sym p.0)
number_of_parsed {E} text (Err e) plain parsed =
    let p = parse_plain own {E = E} 32 text (Err e) parsed (λ plus. plain (inl plus)) in
    number_of-other text (λ n fits same.
    let numeral = decimal_is_IsNumeral n (omega arith) in
    let value : digits_value 10 text ≡ n = ap (digits_value 10) same ∙ numeral.1 in
    p (rw (← same) at numeral.0.1, rw (← same) at numeral.0.0, omega arith))

-- The reason why `number` may return `None` before it parses.
pub number_of_padded : (text : List ℕ) → IsPadded text → number_of text ≡ None
number_of_padded text padded = sym (number_of-other text (padded_is_other text padded))

pub number_of_no_text : (text : List ℕ) (r : Result (Bor (List ℕ)) Utf8Error) → Decodes text r
    → None ≡ result_ok r
    → number_of text ≡ None
number_of_no_text text r decodes none =
    sym (number_of-other text (no_text_is_other text (no_text_at_none text r decodes none)))

pub ruleset numbers = (number_of_padded, IfSome_number, IfNone_number, number_of_parsed, same_text_at_some)
