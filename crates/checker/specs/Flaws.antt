-- What makes a report wrong: the conditions of a right report, and the first that fails.
use Rattle.std.specs.Prelude.{◌≡◌, ◌⊎◌, ℕ, ◌<◌, List, [], ◌∷◌, length, take, IsTrue, Option, None, Some, IfSome, slice_get}
use Rattle.reports.specs.declared.table.Table.{Table}
use Rattle.reports.specs.declared.report.Refusal.{Refusal}
use Rattle.reports.specs.declared.report.Report.{Report}
use Rattle.checker.specs.declared.checking.Flaw.{Flaw}
use Rattle.checker.specs.declared.checking.Flaw.TheVariants as flaw
use Rattle.reports.specs.Combination.{HasMetDependencies, IsAcceptable}
use Rattle.reports.specs.Reasons.{IsFoundedAfter}
use Rattle.reports.specs.Rightness.{taken_in, HasVersionAt, IsDecidedOnce}

-- If a report takes the request of image j, the request is intact and may replace the image.
abbrev pub IsAcceptableIfTaken : Table → Report → ℕ → Type 0
IsAcceptableIfTaken table report j = IsTrue (taken_in report j) → IsAcceptable table j

-- If a list has a refusal k, from 0, its reason holds after the refusals before it.
abbrev pub IsFoundedAt : Table → List Refusal → ℕ → Type 0
IsFoundedAt table refusals k =
    IfSome (slice_get refusals k) (IsFoundedAfter table (take k refusals))

-- A condition: what has to hold at each number, and the flaw if it doesn't hold at a number.
abbrev pub Condition : Type 1
Condition = (ℕ → Type 0) × (ℕ → Flaw)

-- The conditions of a right report, in order. The numbers are those of images, and in the last
-- condition the places of refusals. The first condition is the same at each number.
abbrev pub conditions : Table → Report → List Condition
conditions table report =
    (λ j. length report.images.items ≡ length table.images.items, λ j. flaw.Images)
    ∷ (HasVersionAt table report, flaw.Version)
    ∷ (IsDecidedOnce table report, flaw.Request)
    ∷ (IsAcceptableIfTaken table report, flaw.Member)
    ∷ (HasMetDependencies table (taken_in report), flaw.Dependencies)
    ∷ (IsFoundedAt table report.refusals.items, flaw.Reason) ∷ []

-- A property fails at n, and at no lower number.
pub record FailsFirstAt (Holds : ℕ → Type 0) (n : ℕ) : Type 0 where
  pub fails : Holds n → ⊥
  pub before : (j : ℕ) → j < n → Holds j

-- The first condition of a row that fails has this flaw at the lowest number at which it fails.
abbrev pub IsFirstIn : List Condition → Flaw → Type 0
IsFirstIn [] named = ⊥
IsFirstIn (condition ∷ later) named =
    ((n : ℕ) × FailsFirstAt condition.0 n × (named ≡ condition.1 n))
    ⊎ (((j : ℕ) → condition.0 j) × IsFirstIn later named)

-- The first flaw of a report: the first condition that fails, at the lowest number.
abbrev pub IsFirstFlaw : Table → Report → Flaw → Type 0
IsFirstFlaw table report named = IsFirstIn (conditions table report) named

-- The lowest number at which a property fails, if there is one.
abbrev pub IsFirstFailure : (ℕ → Type 0) → Option ℕ → Type 0
IsFirstFailure Holds None = (j : ℕ) → Holds j
IsFirstFailure Holds (Some n) = FailsFirstAt Holds n
