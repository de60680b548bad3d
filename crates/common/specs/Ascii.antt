-- Numbers and separators in ASCII text.
use Rattle.std.specs.Prelude.{◌≡◌, ◌≢◌, ◌⊎◌, ℕ, ◌^◌, ◌<◌, ◌==◌, ◌&&◌, List, [], ◌∷◌, length, slice_index, Option, Some, None, option_and_then, decimal, nat_lt, if◌then◌else◌}
use Rattle.std.specs.List.{AllByRecursion}
use Rattle.std.specs.Str.{bytes_eq}
use Rattle.std.specs.Str.Parse.{digits_value}

-- A text begins as no number is printed: with a plus sign, or with a zero before anything else.
abbrev pub IsPadded : List ℕ → Type 0
IsPadded text = (slice_index text 0 ≡ 43) ⊎ ((slice_index text 0 ≡ 48) × (1 < length text))

-- The number that a text spells: decimal, without leading zeros, below 2 ^ 32.
unfoldable pub number_of : List ℕ → Option ℕ
number_of text =
    let value = digits_value 10 text in
    if bytes_eq (decimal value) text && nat_lt value (2 ^ 32) then Some value else None

-- The number that a text spells, if it is below a limit.
abbrev pub number_below : ℕ → List ℕ → Option ℕ
number_below limit text =
    option_and_then (λ value. if nat_lt value limit then Some value else None) (number_of text)

-- No byte of the text is this one.
abbrev pub LacksByte : ℕ → List ℕ → Type 0
LacksByte byte text = AllByRecursion (λ b. b ≢ byte) text

-- The text before the first separator, and the text after it if there is a separator.
unfoldable pub cut : ℕ → List ℕ → List ℕ × Option (List ℕ)
cut separator [] = ([], None)
cut separator (b ∷ bs) =
    if b == separator then ([], Some bs) else (b ∷ (cut separator bs).0, (cut separator bs).1)
