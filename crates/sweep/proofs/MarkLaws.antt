-- Laws of the marks of two parts of the runs.
use Rattle.std.proofs.Common.{◌≡◌, ◌≢◌, ◌||◌, ◌⊎◌, ◌∙◌, Bool, false, true, inl, inr, refl}
use Rattle.std.proofs.lemmas.Bool.{or_cases, or_from}
use Rattle.sweep.specs.Marks.{HasTwo, IsMarkOf, IsMarkSum, in_either}
use Rattle.sweep.specs.declared.notes.BootOutcome.{BootOutcome}
use Rattle.sweep.specs.declared.marks.Mark.{Mark}
use Rattle.sweep.specs.declared.marks.Mark.TheVariants.{NotTried, All, Several}

or_left : (x y : Bool) → x ≡ true → (x || y) ≡ true
or_left true y is_true = refl
or_left false y is_true = absurd (cc is_true)

or_right : (x y : Bool) → y ≡ true → (x || y) ≡ true
or_right true y is_true = refl
or_right false y is_true = is_true

-- If the first isn't true, the second is.
or_other : (x y : Bool) → x ≡ false → (x || y) ≡ true → y ≡ true
or_other false y is_false is_true = is_true
or_other true y is_false is_true = absurd (cc is_false)

-- Two outcomes are in a set that has all those of another one.
more_have_two : (had more : BootOutcome → Bool) → ((outcome : BootOutcome) → had outcome ≡ true → more outcome ≡ true)
    → HasTwo had → HasTwo more
more_have_two had more have two = record {
  one = two.one;
  other = two.other;
  one_had = have two.one two.one_had;
  other_had = have two.other two.other_had;
  differ = two.differ;
}

none_left_of : (one two : BootOutcome → Bool) (mark : Mark) → IsMarkOf one NotTried → IsMarkOf two mark
    → IsMarkOf (in_either one two) mark
none_left_of one two NotTried none is = λ outcome. or_from (one outcome) (two outcome) (none outcome) (is outcome)
none_left_of one two (All outcome) none is = (
  or_right (one outcome) (two outcome) is.0,
  λ other had. is.1 other (or_other (one other) (two other) (none other) had),
)
none_left_of one two Several none is =
    more_have_two two (in_either one two) (λ outcome. or_right (one outcome) (two outcome)) is

same_of : (one two : BootOutcome → Bool) (outcome : BootOutcome) → IsMarkOf one (All outcome)
    → IsMarkOf two (All outcome) → IsMarkOf (in_either one two) (All outcome)
same_of one two outcome left right = (
  or_left (one outcome) (two outcome) left.0,
  λ other had. elim (or_cases (one other) (two other) had) [
    | inl is_true ↦ left.1 other is_true
    | inr is_true ↦ right.1 other is_true
  ],
)

differ_of : (one two : BootOutcome → Bool) (first second : BootOutcome) → first ≢ second
    → IsMarkOf one (All first) → IsMarkOf two (All second) → HasTwo (in_either one two)
differ_of one two first second differ left right = record {
  one = first;
  other = second;
  one_had = or_left (one first) (two first) left.0;
  other_had = or_right (one second) (two second) right.0;
  differ = differ;
}

or_swap : (x y : Bool) → (x || y) ≡ (y || x)
or_swap true true = refl
or_swap true false = refl
or_swap false true = refl
or_swap false false = refl

-- The order of the parts doesn't matter.
swapped : (one two : BootOutcome → Bool) (mark : Mark) → IsMarkOf (in_either two one) mark
    → IsMarkOf (in_either one two) mark
swapped one two NotTried none = λ outcome. or_swap (one outcome) (two outcome) ∙ none outcome
swapped one two (All outcome) is = (
  or_swap (one outcome) (two outcome) ∙ is.0,
  λ other had. is.1 other (or_swap (two other) (one other) ∙ had),
)
swapped one two Several has =
    more_have_two (in_either two one) (in_either one two) (λ outcome had. or_swap (one outcome) (two outcome) ∙ had) has

in_other_order : (one two sum : Mark) → IsMarkSum one two sum → IsMarkSum two one sum
in_other_order one two sum is =
    record { joins = λ first second left right. swapped first second sum (is.joins second first right left) }

-- A part without outcomes changes nothing.
pub none_left : (mark : Mark) → IsMarkSum NotTried mark mark
none_left mark = record { joins = λ one two none is. none_left_of one two mark none is }

pub none_right : (mark : Mark) → IsMarkSum mark NotTried mark
none_right mark = in_other_order NotTried mark mark (none_left mark)

-- The same outcome in both parts is that of all runs.
pub same_marks : (outcome : BootOutcome) → IsMarkSum (All outcome) (All outcome) (All outcome)
same_marks outcome = record { joins = λ one two left right. same_of one two outcome left right }

-- Different outcomes in the parts, or in one of them, are several.
pub other_marks : (first second : BootOutcome) → first ≢ second → IsMarkSum (All first) (All second) Several
other_marks first second differ =
    record { joins = λ one two left right. differ_of one two first second differ left right }

pub several_left : (mark : Mark) → IsMarkSum Several mark Several
several_left mark = record {
  joins = λ one two left right. more_have_two one (in_either one two) (λ outcome. or_left (one outcome) (two outcome)) left;
}

pub several_right : (mark : Mark) → IsMarkSum mark Several Several
several_right mark = in_other_order Several mark Several (several_left mark)

pub ruleset mark_sums = (none_left, none_right, same_marks, other_marks, several_left, several_right)
