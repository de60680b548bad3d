-- What a command writes, by its result.
use Rattle.std.specs.Prelude.{◌≡◌, ◌⊎◌, ℕ, List, take, Option, Result, Ok, Err}
use Rattle.std.specs.Io.KnownBytes.{Appends}
use Rattle.host.specs.declared.answer.Answer.{Answer}
use Rattle.host.specs.declared.error.Refusal.{Refusal}
use Rattle.host.specs.declared.error.Refusal.TheVariants.{CannotWrite}

-- A writer takes a prefix of a text.
abbrev pub TakesPrefix : List ℕ → Option (List ℕ) → Option (List ℕ) → Type 0
TakesPrefix text old new = (count : ℕ) × Appends old new (take count text)

-- A writer takes the text of an answer, or a prefix of it if a write fails.
abbrev pub WritesText : Answer → List ℕ → Result Answer Refusal
    → Option (List ℕ) → Option (List ℕ) → Type 0
WritesText answer text result old new =
    ((result ≡ Ok answer) × Appends old new text)
    ⊎ ((result ≡ Err CannotWrite) × TakesPrefix text old new)
