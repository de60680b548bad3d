-- Lemmas about reading lines one by one into a state.
use Rattle.std.proofs.Common.{◌≡◌, ℕ, zero, suc, ◌+◌, ◌<◌, List, [], ◌∷◌, ◌++◌, take, length, Option, Some, None, Result, Ok, Err, refl, sym, ap, ◌∙◌, append_assoc, inl, inr, arith}
use Rattle.std.specs.Prelude.{option_and_then, option_map}
use Rattle.std.specs.List.{AllZip}
use Rattle.std.proofs.lemmas.List.{append-nil}
use Rattle.common.specs.Lines.{lines_of, text_of_lines, Begins, IsFirstBadLine}
use Rattle.common.specs.Reading.{read_lines, with_text}
use Rattle.common.proofs.Options.{cases_option, and_then_some, same_after}
use Rattle.common.proofs.LinesLaws.{AreLines, AreLines-lines_of, AreLines-take, lines_of-text_of_lines}

-- The state after these lines, if each can be placed.
abbrev pub run : {S X : Type 0} → (S → X → Option S) → S → List X → Option S
run step state [] = Some state
run step state (x ∷ xs) = option_and_then (λ next. run step next xs) (step state x)

pub run-append : {S X : Type 0} (step : S → X → Option S) (state : S) (xs ys : List X) → run step state (xs ++ ys) ≡ option_and_then (λ next. run step next ys) (run step state xs)
run-append step state [] ys = refl
run-append step state (x ∷ xs) ys = elim (step state x) as (λ next. option_and_then (λ s. run step s (xs ++ ys)) next ≡ option_and_then (λ s. run step s ys) (option_and_then (λ s. run step s xs) next)) [
  | None ↦ refl
  | Some s ↦ run-append step s xs ys
]

-- If lines can be placed, so can each prefix of them.
pub run_front : {S X : Type 0} (step : S → X → Option S) (state final : S) (xs ys : List X) → run step state (xs ++ ys) ≡ Some final → (middle : S) × (run step state xs ≡ Some middle)
run_front step state final xs ys done =
    let both = sym (run-append step state xs ys) ∙ done in
    elim (run step state xs) as (λ (r : Option _). option_and_then (λ s. run step s ys) r ≡ Some final → (middle : _) × (r ≡ Some middle)) [
      | None ↦ λ e. cc
      | Some middle ↦ λ e. (middle, refl)
    ] both

wrapped_after : {S T : Type 0} (wrap : S → T) (r : Option S) (f : S → Option S) (g : T → Option T) → ((s : S) → g (wrap s) ≡ option_map wrap (f s)) → option_and_then g (option_map wrap r) ≡ option_map wrap (option_and_then f r)
wrapped_after wrap None f g same = refl
wrapped_after wrap (Some s) f g same = same s

-- If a state wraps another one, and so do single steps, then so do the results of all steps.
pub run-wrapped : {S T X : Type 0} (wrap : S → T) (step : S → X → Option S) (wrapped : T → X → Option T)
    → ((state : S) (x : X) → wrapped (wrap state) x ≡ option_map wrap (step state x))
    → (state : S) (xs : List X) → run wrapped (wrap state) xs ≡ option_map wrap (run step state xs)
run-wrapped wrap step wrapped same state [] = refl
run-wrapped wrap step wrapped same state (x ∷ xs) =
    ap (option_and_then (λ next. run wrapped next xs)) (same state x)
    ∙ wrapped_after wrap (step state x) (λ s. run step s xs) (λ t. run wrapped t xs) (λ s. run-wrapped wrap step wrapped same s xs)

-- A line that can't be placed ends reading, and one that can doesn't.
pub read_lines-none : {S : Type 0} (step : S → List ℕ → Option S) (state : S) (n : ℕ) (line : List ℕ) (lines : List (List ℕ)) → step state line ≡ None → read_lines step state n (line ∷ lines) ≡ Err n
unfolding read_lines
read_lines-none step state n line lines none = rw (none, read_lines) refl

pub read_lines-some : {S : Type 0} (step : S → List ℕ → Option S) (state next : S) (n : ℕ) (line : List ℕ) (lines : List (List ℕ)) → step state line ≡ Some next → read_lines step state n (line ∷ lines) ≡ read_lines step next (n + 1) lines
unfolding read_lines
read_lines-some step state next n line lines some = rw (some, read_lines) refl

-- Reading that succeeds has placed each line.
pub read_lines-ok : {S : Type 0} (step : S → List ℕ → Option S) (state final : S) (n : ℕ) (lines : List (List ℕ)) → read_lines step state n lines ≡ Ok final → run step state lines ≡ Some final
unfolding read_lines
read_lines-ok step state final n [] done = let e : state ≡ final = cc in ap Some e
read_lines-ok step state final n (line ∷ lines) done = elim (cases_option (step state line)) [
  | inl none ↦ let e = read_lines-none step state n line lines none in cc
  | inr next ↦ rw next.1 (read_lines-ok step next.0 final (n + 1) lines (sym (read_lines-some step state next.0 n line lines next.1) ∙ done))
]

-- Reading stops at line n: it can't be placed, and each line before it can.
pub record StopsAt {S : Type 0} (step : S → List ℕ → Option S) (state : S) (lines : List (List ℕ)) (n : ℕ) : Type 0 where
  pub bad : run step state (take n lines) ≡ None
  pub good : (m : ℕ) → m < n → (middle : S) × (run step state (take m lines) ≡ Some middle)

StopsAt-next : {S : Type 0} (step : S → List ℕ → Option S) (state next : S) (line : List ℕ) (lines : List (List ℕ)) (n : ℕ) → step state line ≡ Some next → StopsAt step next lines n → StopsAt step state (line ∷ lines) (suc n)
StopsAt-next {S} step state next line lines n placed stops = record {
  bad = rw placed stops.bad;
  good = λ m below. good m below;
} where
  good : (m : ℕ) → m < suc n → (middle : S) × (run step state (take m (line ∷ lines)) ≡ Some middle)
  good zero below = (state, refl)
  good (suc m) below = rw placed (stops.good m (omega arith))

-- Reading that fails returns the number of the first line that can't be placed.
pub read_lines-err : {S : Type 0} (step : S → List ℕ → Option S) (state : S) (n k : ℕ) (lines : List (List ℕ)) → read_lines step state (n + 1) lines ≡ Err k → (m : ℕ) × (k ≡ n + m) × StopsAt step state lines m
unfolding read_lines
read_lines-err step state n k [] failed = cc
read_lines-err step state n k (line ∷ lines) failed = elim (cases_option (step state line)) [
  | inl none ↦ let stopped = read_lines-none step state (n + 1) line lines none in let e : n + 1 ≡ k = cc in
      (1, sym e, record { bad = rw none refl; good = λ m below. let z : m ≡ 0 = omega arith in rw z (state, refl) })
  | inr next ↦
      let later = read_lines-err step next.0 (n + 1) k lines (sym (read_lines-some step state next.0 (n + 1) line lines next.1) ∙ failed) in
      (suc later.0, omega (arith, later.1), StopsAt-next step state next.0 line lines later.0 next.1 later.2)
]

-- The conditions that tie a reader of lines to what its states spell.
pub record Spells {S L : Type 0} (line_of : List ℕ → Option L) (place : S → L → Option S) (Says : List ℕ → L → Type 0) (lines : S → List L) : Type 0 where
  pub again : (text : List ℕ) (said : L) → Says text said → line_of text ≡ Some said
  pub spelled : (text : List ℕ) (said : L) → line_of text ≡ Some said → Says text said
  pub grows : (state next : S) (said : L) → place state said ≡ Some next → lines next ≡ lines state ++ said ∷ []

-- Reading texts is the same as placing what they say.
pub run-with_text : {S L : Type 0} (line_of : List ℕ → Option L) (place : S → L → Option S) (Says : List ℕ → L → Type 0) (lines : S → List L) → Spells line_of place Says lines
    → (state : S) (texts : List (List ℕ)) (said : List L) → AllZip Says texts said → run (with_text line_of place) state texts ≡ run place state said
run-with_text line_of place Says lines spells state [] [] say = refl
run-with_text line_of place Says lines spells state [] (l ∷ said) say = absurd say
run-with_text line_of place Says lines spells state (text ∷ texts) [] say = absurd say
run-with_text line_of place Says lines spells state (text ∷ texts) (l ∷ said) say =
    rw (spells.again text l say.0) (same_after (place state l) (λ next. run (with_text line_of place) next texts) (λ next. run place next said) (λ next. run-with_text line_of place Says lines spells next texts said say.1))

-- The texts that were read say the lines that the state has gained.
pub said_by_run : {S L : Type 0} (line_of : List ℕ → Option L) (place : S → L → Option S) (Says : List ℕ → L → Type 0) (lines : S → List L) → Spells line_of place Says lines
    → (state final : S) (texts : List (List ℕ)) → run (with_text line_of place) state texts ≡ Some final → (said : List L) × (lines final ≡ lines state ++ said) × AllZip Says texts said
said_by_run line_of place Says lines spells state final [] done = let e : state ≡ final = cc in ([], rw (← e) (sym (append-nil (lines state))), tt)
said_by_run line_of place Says lines spells state final (text ∷ texts) done =
    let first = and_then_some (with_text line_of place state text) (λ next. run (with_text line_of place) next texts) final done in
    let placed = and_then_some (line_of text) (place state) first.0 first.1 in
    let others = said_by_run line_of place Says lines spells first.0 final texts first.2 in
    let grown = spells.grows state first.0 placed.0 placed.2 in
    (placed.0 ∷ others.0, others.1 ∙ ap (λ (ls : List _). ls ++ others.0) grown ∙ simp append_assoc, (spells.spelled text placed.0 placed.1, others.2))

-- The number of the line at which reading stops is the one that a refusal names. Two conditions are
-- needed: a text of the kind is read completely, and each text that was read is a prefix of one.
pub IsFirstBadLine-stops : {S : Type 0} (IsText : List ℕ → Type 0) (step : S → List ℕ → Option S) (state : S)
    → ((bytes : List ℕ) → IsText bytes → (final : S) × (run step state (lines_of bytes) ≡ Some final))
    → ((lines : List (List ℕ)) (final : S) → AreLines lines → run step state lines ≡ Some final → Begins IsText lines)
    → (bytes : List ℕ) (n : ℕ) → read_lines step state 1 (lines_of bytes) ≡ Err n → IsFirstBadLine IsText bytes n
IsFirstBadLine-stops IsText step state reads goes_on bytes n failed =
    let stop = read_lines-err step state 0 n (lines_of bytes) failed in
    let e : n ≡ stop.0 = omega (arith, stop.1) in
    rw e (inr (
      λ begins.
          let front : List (List ℕ) = take stop.0 (lines_of bytes) in
          let whole = reads (text_of_lines front ++ begins.0) begins.1 in
          let split = lines_of-text_of_lines front begins.0 (AreLines-take stop.0 (lines_of bytes) (AreLines-lines_of bytes)) in
          let read = ap (run step state) (sym split) ∙ whole.1 in
          let middle = run_front step state whole.0 front (lines_of begins.0) read in
          let bad = stop.2.bad in cc,
      λ m below.
          let good = stop.2.good m below in
          goes_on (take m (lines_of bytes)) good.0 (AreLines-take m (lines_of bytes) (AreLines-lines_of bytes)) good.1,
    ))

-- Lines that can all be placed are read.
pub read_lines-run : {S : Type 0} (step : S → List ℕ → Option S) (state final : S) (n : ℕ) (lines : List (List ℕ)) → run step state lines ≡ Some final → read_lines step state n lines ≡ Ok final
unfolding read_lines
read_lines-run step state final n [] done = let e : state ≡ final = cc in ap Ok e
read_lines-run step state final n (line ∷ lines) done =
    let first = and_then_some (step state line) (λ next. run step next lines) final done in
    read_lines-some step state first.0 n line lines first.1 ∙ read_lines-run step first.0 final (n + 1) lines first.2

-- ---- one line after another, as in a loop

pub read_lines-stops : {S : Type 0} (step : S → List ℕ → Option S) (state : S) (n : ℕ) (lines later : List (List ℕ)) (line : List ℕ) (total : Result S ℕ) → lines ≡ line ∷ later → step state line ≡ None → read_lines step state n lines ≡ total → total ≡ Err n
read_lines-stops step state n lines later line total is none so_far = sym so_far ∙ rw is (read_lines-none step state n line later none)

pub read_lines-goes_on : {S : Type 0} (step : S → List ℕ → Option S) (state next : S) (n : ℕ) (lines later : List (List ℕ)) (line : List ℕ) (total : Result S ℕ) → lines ≡ line ∷ later → step state line ≡ Some next → read_lines step state n lines ≡ total → read_lines step next (n + 1) later ≡ total
read_lines-goes_on step state next n lines later line total is some so_far = sym (read_lines-some step state next n line later some) ∙ (rw is at so_far)

pub read_lines-ends : {S : Type 0} (step : S → List ℕ → Option S) (state : S) (n : ℕ) (bytes : List ℕ) (total : Result S ℕ) → length bytes ≡ 0 → read_lines step state n (lines_of bytes) ≡ total → total ≡ Ok state
unfolding read_lines
read_lines-ends step state n [] total empty so_far = sym so_far
read_lines-ends step state n (b ∷ bs) total empty so_far = absurd (omega arith)
