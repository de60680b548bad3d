-- Laws about checks in a row.
use Rattle.std.proofs.Common.{◌≡◌, ◌≢◌, inl, inr, List, [], ◌∷◌, ◌++◌, sym, ◌∙◌}
use Rattle.std.specs.Prelude.{⊤}
use Rattle.image_reading.specs.declared.error.ImageError.{ImageError}
use Rattle.image_reading.specs.Checks.{AllPass, Check, FailsWith}

-- If all checks pass, none fails.
pub passing_has_no_fault : (row : List Check) (fault : ImageError) → AllPass row → FailsWith row fault → ⊥
passing_has_no_fault [] fault passes failed = failed
passing_has_no_fault (check ∷ later) fault passes (inl here) = here.0 passes.0
passing_has_no_fault (check ∷ later) fault passes (inr behind) =
    passing_has_no_fault later fault passes.1 behind.1

-- The first check that fails has one fault.
pub FailsWith-unique : (row : List Check) (first second : ImageError) → FailsWith row first → FailsWith row second
    → first ≡ second
FailsWith-unique [] first second a b = absurd a
FailsWith-unique (check ∷ later) first second (inl a) (inl b) = a.1 ∙ sym b.1
FailsWith-unique (check ∷ later) first second (inl a) (inr b) = absurd (a.0 b.0)
FailsWith-unique (check ∷ later) first second (inr a) (inl b) = absurd (b.0 a.0)
FailsWith-unique (check ∷ later) first second (inr a) (inr b) = FailsWith-unique later first second a.1 b.1

-- Checks of two rows pass if those of each do.
pub AllPass-append : (row more : List Check) → AllPass row → AllPass more → AllPass (row ++ more)
AllPass-append [] more passes pass = pass
AllPass-append (check ∷ later) more passes pass = (passes.0, AllPass-append later more passes.1 pass)

-- A check of the first row fails.
pub fails_in_first : (row more : List Check) (fault : ImageError) → FailsWith row fault → FailsWith (row ++ more) fault
fails_in_first [] more fault failed = absurd failed
fails_in_first (check ∷ later) more fault (inl here) = inl here
fails_in_first (check ∷ later) more fault (inr behind) =
    inr (behind.0, fails_in_first later more fault behind.1)

-- The first row passes, and a check of the second one fails.
pub fails_in_second : (row more : List Check) (fault : ImageError) → AllPass row → FailsWith more fault
    → FailsWith (row ++ more) fault
fails_in_second [] more fault passes failed = failed
fails_in_second (check ∷ later) more fault passes failed =
    inr (passes.0, fails_in_second later more fault passes.1 failed)

-- If the first row passes, a check of the second one fails.
pub second_fails : (row more : List Check) (fault : ImageError) → AllPass row → FailsWith (row ++ more) fault
    → FailsWith more fault
second_fails [] more fault passes failed = failed
second_fails (check ∷ later) more fault passes (inl here) = absurd (here.0 passes.0)
second_fails (check ∷ later) more fault passes (inr behind) = second_fails later more fault passes.1 behind.1

-- No check of a row has this fault.
abbrev pub NotAmong : List Check → ImageError → Type 0
NotAmong [] other = ⊤
NotAmong (check ∷ later) other = (check.1 ≢ other) × NotAmong later other

pub fault_among : (row : List Check) (fault other : ImageError) → NotAmong row other → FailsWith row fault
    → fault ≢ other
fault_among [] fault other none failed = absurd failed
fault_among (check ∷ later) fault other none (inl here) = λ same. none.0 (sym here.1 ∙ same)
fault_among (check ∷ later) fault other none (inr behind) = fault_among later fault other none.1 behind.1
