-- A list of checks, and the first of them that fails.
use Rattle.std.specs.Prelude.{ℕ, zero, suc, ⊤}

-- All checks before a place pass.
abbrev pub PassBefore : (ℕ → Type 0) → ℕ → Type 0
PassBefore check zero = ⊤
PassBefore check (suc place) = PassBefore check place × check place

-- The check at this place fails, and all checks before it pass.
abbrev pub FailsFirst : (ℕ → Type 0) → ℕ → Type 0
FailsFirst check place = PassBefore check place × (check place → ⊥)
