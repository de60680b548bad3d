-- Reads lines one by one into a state, up to the first line that the state doesn't take.
use Rattle.std.specs.Prelude.{ℕ, ◌+◌, List, [], ◌∷◌, Option, Some, None, Result, Ok, Err, option_and_then}

-- The state after one more line, if the line has a meaning that the state takes.
abbrev pub with_text :
    {S L : Type 0} → (List ℕ → Option L) → (S → L → Option S) → S → List ℕ → Option S
with_text line_of place state line = option_and_then (place state) (line_of line)

-- The state after these lines, or the number of the first line that the state doesn't take. The
-- first line has number n.
unfoldable pub read_lines :
    {S : Type 0} → (S → List ℕ → Option S) → S → ℕ → List (List ℕ) → Result S ℕ
read_lines with_line state n [] = Ok state
read_lines with_line state n (line ∷ lines) =
    elim (with_line state line) [
      | None ↦ Err n
      | Some next ↦ read_lines with_line next (n + 1) lines
    ]
