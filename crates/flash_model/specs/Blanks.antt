-- The tokens from which a flash makes its counts.
use Rattle.std.specs.Prelude.{◌≡◌, ℕ}
use Rattle.std.specs.declared.sync.ledger.Blank.{Blank}

-- A blank of the ledger that has this name and this number of parts. That number is `count`.
abbrev pub IsBlankOf : Blank → ℕ → ℕ → ℕ → Type 0
IsBlankOf blank name parts count = (blank.name ≡ name) × (blank.parts ≡ parts) × (parts ≡ count)
