-- Checks in a row: the first that fails decides which fault is returned.
use Rattle.std.specs.Prelude.{◌≡◌, ◌⊎◌, List, [], ◌∷◌, ⊤}
use Rattle.image_reading.specs.declared.error.ImageError.{ImageError}

-- A check: what has to hold, and the fault if it doesn't.
abbrev pub Check : Type 1
Check = Type 0 × ImageError

-- All checks of a row pass.
abbrev pub AllPass : List Check → Type 0
AllPass [] = ⊤
AllPass (check ∷ later) = check.0 × AllPass later

-- The first check of a row that fails has this fault.
abbrev pub FailsWith : List Check → ImageError → Type 0
FailsWith [] fault = ⊥
FailsWith (check ∷ later) fault =
    ((check.0 → ⊥) × (fault ≡ check.1)) ⊎ (check.0 × FailsWith later fault)
