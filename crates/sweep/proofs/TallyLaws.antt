-- Laws of the tallies of two parts of the runs.
use Rattle.std.proofs.Common.{◌≡◌, ◌⊎◌, ◌≤◌, ◌<◌, ◌+◌, ◌-◌, ◌^◌, ℕ, List, [], ◌∷◌, ◌++◌, Option, arith, inl, inr, length, subst, sym}
use Rattle.std.specs.Prelude.{min}
use Rattle.std.proofs.lemmas.List.{length-append}
use Rattle.sweep.specs.Tallies.{HasRun, IsFirstOf, IsTallyOf, IsTallySum, cuts_place}
use Rattle.sweep.specs.Tallies.IsFirstOf.{only_other, only_one, earlier, not_later}
use Rattle.sweep.specs.declared.cuts.Cuts.{Cuts}
use Rattle.sweep.specs.declared.tally.Tally.{Tally}

-- Lists that have a run aren't empty.
has_some : (run : Option Cuts) (runs : List (Option Cuts)) → HasRun run runs → 0 < length runs
has_some run [] has = absurd has
has_some run (other ∷ runs) has = omega arith

has_left : (run : Option Cuts) (one two : List (Option Cuts)) → HasRun run one → HasRun run (one ++ two)
has_left run [] two has = absurd has
has_left run (other ∷ one) two (inl same) = inl same
has_left run (other ∷ one) two (inr has) = inr (has_left run one two has)

has_right : (run : Option Cuts) (one two : List (Option Cuts)) → HasRun run two → HasRun run (one ++ two)
has_right run [] two has = has
has_right run (other ∷ one) two has = inr (has_right run one two has)

has_later : (run other : Option Cuts) (one two : List (Option Cuts)) → HasRun run one ⊎ HasRun run two
    → HasRun run (other ∷ one) ⊎ HasRun run two
has_later run other one two (inl has) = inl (inr has)
has_later run other one two (inr has) = inr has

has_either : (run : Option Cuts) (one two : List (Option Cuts)) → HasRun run (one ++ two)
    → HasRun run one ⊎ HasRun run two
has_either run [] two has = inr has
has_either run (other ∷ one) two (inl same) = inl (inl same)
has_either run (other ∷ one) two (inr has) = has_later run other one two (has_either run one two has)

-- A tally has runs exactly if the list does.
counted : (runs : List (Option Cuts)) (tally : Tally) → IsTallyOf runs tally → 0 < length runs → 0 < tally.runs
counted runs tally is some = omega (arith, is.count, some)

there : (runs : List (Option Cuts)) (tally : Tally) → IsTallyOf runs tally → 0 < tally.runs → 0 < length runs
there runs tally is some = omega (arith, is.count, some)

-- The first of the runs of two tallies is one of them.
first_there : (tally other : Tally) (first : Option Cuts) (one two : List (Option Cuts)) → IsFirstOf tally other first
    → IsTallyOf one tally → IsTallyOf two other → 0 < length one + length two → HasRun first (one ++ two)
first_there tally other first one two (only_other none same) left right some =
    subst (λ run. HasRun run (one ++ two)) (sym same)
    (has_right other.first one two (right.first (omega (arith, some, none, left.count))))
first_there tally other first one two (only_one none same) left right some =
    subst (λ run. HasRun run (one ++ two)) (sym same)
    (has_left tally.first one two (left.first (omega (arith, some, none, right.count))))
first_there tally other first one two (earlier runs before same) left right some =
    subst (λ run. HasRun run (one ++ two)) (sym same)
    (has_right other.first one two (right.first (there two other right runs)))
first_there tally other first one two (not_later runs before same) left right some =
    subst (λ run. HasRun run (one ++ two)) (sym same)
    (has_left tally.first one two (left.first (there one tally left runs)))

-- No run is before it.
least_left : (tally other : Tally) (first : Option Cuts) (one : List (Option Cuts)) (run : Option Cuts)
    → IsFirstOf tally other first → IsTallyOf one tally → HasRun run one → cuts_place first ≤ cuts_place run
least_left tally other first one run (only_other none same) left has =
    absurd (omega (arith, none, counted one tally left (has_some run one has)))
least_left tally other first one run (only_one none same) left has = rw same (left.least run has)
least_left tally other first one run (earlier runs before same) left has =
    rw same (omega (arith, before, left.least run has))
least_left tally other first one run (not_later runs before same) left has = rw same (left.least run has)

least_right : (tally other : Tally) (first : Option Cuts) (two : List (Option Cuts)) (run : Option Cuts)
    → IsFirstOf tally other first → IsTallyOf two other → HasRun run two → cuts_place first ≤ cuts_place run
least_right tally other first two run (only_other none same) right has = rw same (right.least run has)
least_right tally other first two run (only_one none same) right has =
    absurd (omega (arith, none, counted two other right (has_some run two has)))
least_right tally other first two run (earlier runs before same) right has = rw same (right.least run has)
least_right tally other first two run (not_later runs before same) right has =
    rw same (omega (arith, before, right.least run has))

summed : (tally other sum : Tally) (one two : List (Option Cuts))
    → sum.runs ≡ min (tally.runs + other.runs) (2 ^ 64 - 1) → IsFirstOf tally other sum.first
    → IsTallyOf one tally → IsTallyOf two other → IsTallyOf (one ++ two) sum
summed tally other sum one two runs is_first left right = record {
  count = omega (arith, runs, left.count, right.count, length-append one two);
  first = λ some. first_there tally other sum.first one two is_first left right (omega (arith, some, length-append one two));
  least = λ run has. elim (has_either run one two has) [
    | inl in_one ↦ least_left tally other sum.first one run is_first left in_one
    | inr in_two ↦ least_right tally other sum.first two run is_first right in_two
  ];
}

-- The tally of two parts of the runs.
pub tally_summed : (tally other sum : Tally) → sum.runs ≡ min (tally.runs + other.runs) (2 ^ 64 - 1)
    → IsFirstOf tally other sum.first → IsTallySum tally other sum
tally_summed tally other sum runs is_first =
    record { joins = λ one two left right. summed tally other sum one two runs is_first left right }
