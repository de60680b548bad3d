-- The mark of a write, as a set of outcomes.
use Rattle.std.specs.Prelude.{◌≡◌, ◌≢◌, ◌||◌, Bool, false, true}
use Rattle.sweep.specs.declared.notes.BootOutcome.{BootOutcome}
use Rattle.sweep.specs.declared.marks.Mark.{Mark}
use Rattle.sweep.specs.declared.marks.Mark.TheVariants.{NotTried, All, Several}

-- Two different outcomes are in a set.
pub record HasTwo (had : BootOutcome → Bool) : Type 0 where
  pub one : BootOutcome
  pub other : BootOutcome
  pub one_had : had one ≡ true
  pub other_had : had other ≡ true
  pub differ : one ≢ other

-- The mark of a write, if these are the outcomes of the boots after power cuts at it.
abbrev pub IsMarkOf : (BootOutcome → Bool) → Mark → Type 0
IsMarkOf had NotTried = (outcome : BootOutcome) → had outcome ≡ false
IsMarkOf had (All outcome) =
    (had outcome ≡ true) × ((other : BootOutcome) → had other ≡ true → other ≡ outcome)
IsMarkOf had Several = HasTwo had

-- The outcomes of two parts of the runs.
abbrev pub in_either : (BootOutcome → Bool) → (BootOutcome → Bool) → BootOutcome → Bool
in_either one two outcome = one outcome || two outcome

-- A mark is that of two parts of the runs, whatever outcomes result in the marks of the parts.
pub record IsMarkSum (mark other sum : Mark) : Type 0 where
  pub joins : (one two : BootOutcome → Bool) → IsMarkOf one mark → IsMarkOf two other
      → IsMarkOf (in_either one two) sum
