-- What a choice adds to the counts of its steps.
use Rattle.std.specs.Prelude.{ℕ, ◌+◌, ◌^◌, ◌<◌, ◌≤◌, Bool, false, true, List, count_by}
use Rattle.reports.specs.declared.report.Reason.{Reason}
use Rattle.reports.specs.declared.report.Reason.TheVariants.{Needs, NeedsOne}
use Rattle.reports.specs.declared.report.Refusal.{Refusal}
use Rattle.chooser.specs.declared.steps.Steps.{Steps}

-- Whether a reason depends on what is refused before.
abbrev pub is_dependent : Reason → Bool
is_dependent (Needs image minimum) = true
is_dependent (NeedsOne group) = true
is_dependent _ = false

-- Whether a refusal is a drop: its reason depends on what is refused before.
abbrev pub is_drop : Refusal → Bool
is_drop refusal = is_dependent refusal.reason

-- The number of drops among these refusals.
abbrev pub drops_in : List Refusal → ℕ
drops_in refusals = count_by is_drop refusals

-- Each count is low enough that a choice can't make it overflow.
pub record HasRoom (steps : Steps) : Type 0 where
  pub passes : steps.passes < 2 ^ 31
  pub drops : steps.drops < 2 ^ 31
  pub looks : steps.looks < 2 ^ 31

-- A count doesn't fall, and rises by at most `most`.
abbrev pub RisesAtMost : ℕ → ℕ → ℕ → Type 0
RisesAtMost most old new = (old ≤ new) × (new ≤ old + most)
