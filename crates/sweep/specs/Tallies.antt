-- The number of some runs, and the first of them in the order of a sweep.
use Rattle.std.specs.Prelude.{◌≡◌, ◌⊎◌, ◌≤◌, ◌<◌, ℕ, ◌+◌, ◌*◌, ◌^◌, ◌-◌, ◌++◌, List, [], ◌∷◌, None, Option, Some, length, min}
use Rattle.sweep.specs.declared.cuts.Cuts.{Cuts}
use Rattle.sweep.specs.declared.cuts.Cuts.TheVariants.{One, Two}
use Rattle.sweep.specs.declared.cuts.Tear.{Tear}
use Rattle.sweep.specs.declared.cuts.Tear.TheVariants as tear
use Rattle.sweep.specs.declared.cuts.TornWrite.{TornWrite}
use Rattle.sweep.specs.declared.tally.Tally.{Tally}

-- The place of a way to tear a write, in the order in which a sweep tries them.
abbrev pub tear_place : Tear → ℕ
tear_place tear.Keep = 0
tear_place tear.Done = 1
tear_place tear.Ones = 2
tear_place tear.Zeros = 3
tear_place tear.Magic = 4
tear_place tear.Half = 5

-- The place of a torn write: by its number, and then by the way to tear it.
abbrev pub torn_place : TornWrite → ℕ
torn_place cut = cut.write * 8 + tear_place cut.tear

-- The place of the cuts of a run: the run without a cut is before all others, then by the first
-- cut. A run with one cut is before those with a second one, then by the second cut. Each place of
-- a torn write is below 2 ^ 36 - 1.
abbrev pub cuts_place : Option Cuts → ℕ
cuts_place None = 0
cuts_place (Some (One cut)) = torn_place cut * 2 ^ 36
cuts_place (Some (Two first second)) = torn_place first * 2 ^ 36 + torn_place second + 1

-- A run is one of these.
abbrev pub HasRun : Option Cuts → List (Option Cuts) → Type 0
HasRun run [] = ⊥
HasRun run (other ∷ runs) = (run ≡ other) ⊎ HasRun run runs

-- The number of some runs, which stays at the greatest number of 64 bits, and the first of them.
pub record IsTallyOf (runs : List (Option Cuts)) (tally : Tally) : Type 0 where
  pub count : tally.runs ≡ min (length runs) (2 ^ 64 - 1)
  pub first : 0 < length runs → HasRun tally.first runs
  pub least : (run : Option Cuts) → HasRun run runs → cuts_place tally.first ≤ cuts_place run

-- A tally is that of the runs of two tallies, whatever runs these are.
pub record IsTallySum (tally other sum : Tally) : Type 0 where
  pub joins : (one two : List (Option Cuts)) → IsTallyOf one tally → IsTallyOf two other
      → IsTallyOf (one ++ two) sum

-- The cuts of the first run of two tallies: those of the only tally that has runs, or those of the
-- earlier first run.
pub data IsFirstOf (one other : Tally) (first : Option Cuts) : Type 0 where
  only_other : one.runs ≡ 0 → first ≡ other.first → IsFirstOf one other first
  only_one : other.runs ≡ 0 → first ≡ one.first → IsFirstOf one other first
  earlier : 0 < other.runs → cuts_place other.first < cuts_place one.first
      → first ≡ other.first → IsFirstOf one other first
  not_later : 0 < one.runs → cuts_place one.first ≤ cuts_place other.first
      → first ≡ one.first → IsFirstOf one other first
