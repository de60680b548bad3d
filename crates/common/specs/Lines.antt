-- Texts of lines, and the line that a refusal of a text names.
use Rattle.std.specs.Prelude.{◌≡◌, ℕ, ◌<◌, ◌==◌, ◌⊎◌, List, [], ◌∷◌, ◌++◌, take, if◌then◌else◌}
use Rattle.std.specs.List.{flat_map}

-- Two words with a space (32) between them.
infixr 30 ◌␣◌
abbrev pub ◌␣◌ : List ℕ → List ℕ → List ℕ
first ␣ others = first ++ 32 ∷ others

-- The lines, with this byte at the front of the first one.
abbrev pub with_byte : ℕ → List (List ℕ) → List (List ℕ)
with_byte b [] = (b ∷ []) ∷ []
with_byte b (line ∷ lines) = (b ∷ line) ∷ lines

-- The lines of a text. A line ends with a line feed (10), which may be missing at the end of the
-- text.
abbrev pub lines_of : List ℕ → List (List ℕ)
lines_of [] = []
lines_of (b ∷ bs) = if b == 10 then [] ∷ lines_of bs else with_byte b (lines_of bs)

-- The text of these things, one line for each: its text, followed by a line feed.
abbrev pub printed_lines : {L : Type 0} → (L → List ℕ) → List L → List ℕ
printed_lines text_of things = flat_map (λ thing. text_of thing ++ 10 ∷ []) things

-- The text of these lines, each followed by a line feed.
abbrev pub text_of_lines : List (List ℕ) → List ℕ
text_of_lines lines = printed_lines (λ line. line) lines

-- These lines, each followed by a line feed, are a prefix of a text: some bytes after them make
-- one.
abbrev pub Begins : (List ℕ → Type 0) → List (List ℕ) → Type 0
Begins IsText lines = (more : List ℕ) × IsText (text_of_lines lines ++ more)

-- The first n lines are a prefix of no text, and each shorter list of first lines is a prefix of
-- one.
abbrev pub IsFirstBeyond : (List ℕ → Type 0) → List (List ℕ) → ℕ → Type 0
IsFirstBeyond IsText lines n =
    (Begins IsText (take n lines) → ⊥) × ((m : ℕ) → m < n → Begins IsText (take m lines))

-- The line that a refusal names, counted from 1: the least n for which the first n lines are a
-- prefix of no text. If there are no lines, it is 1.
abbrev pub IsFirstBadLine : (List ℕ → Type 0) → List ℕ → ℕ → Type 0
IsFirstBadLine IsText bytes n =
    ((lines_of bytes ≡ []) × (n ≡ 1)) ⊎ IsFirstBeyond IsText (lines_of bytes) n
