-- What is true of lists of bytes.
use Rattle.std.specs.Prelude.{◌≡◌, ℕ, ◌^◌, ◌<◌, List, ◌++◌, slice_index}

-- Each number is a byte.
abbrev pub IsBytes : List ℕ → Type 0
IsBytes bytes = (i : ℕ) → slice_index bytes i < 2 ^ 8

-- The bytes `whole` begin with the bytes `front`.
abbrev pub Starts : List ℕ → List ℕ → Type 0
Starts whole front = (rest : List ℕ) × (whole ≡ front ++ rest)
