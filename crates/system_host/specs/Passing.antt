-- What is read of an input, as far as the rest of it is known.
use Rattle.std.specs.Prelude.{◌≡◌, ℕ, List, ◌++◌, length, Option, None, Some, ⊤}
use Rattle.std.specs.Io.KnownBytes.{Consumes}

-- The rest of the input begins with these bytes.
abbrev pub BeginsWith : Option (List ℕ) → List ℕ → Type 0
BeginsWith None bytes = ⊤
BeginsWith (Some held) bytes = (rest : List ℕ) × (held ≡ bytes ++ rest)

-- Exactly `count` bytes were consumed from the front of the rest.
abbrev pub Passes : Option (List ℕ) → Option (List ℕ) → ℕ → Type 0
Passes old new count = (bytes : List ℕ) × (length bytes ≡ count) × Consumes old new bytes
