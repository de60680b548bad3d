-- Laws of the dependencies that words name, two words each.
use Rattle.std.proofs.Common.{◌≡◌, ◌-◌, ◌≤◌, ◌<◌, List, [], ◌∷◌, ◌++◌, Option, Some, None, Bor, ap, map, length, drop, take, get_or, refl, sym, ◌∙◌, arith, append_assoc}
use Rattle.std.specs.Prelude.{option_map}
use Rattle.std.proofs.lemmas.List.{append-nil, take_all}
use Rattle.clap.specs.Words.{Text}
use Rattle.version_order.specs.declared.dependency.Dependency.{Dependency}
use Rattle.command_line.specs.Needs.{need_of, needs_of}

abbrev pub texts_of : List (Bor Text) → List Text
texts_of words = map (λ word. word.now) words

-- If the first two words name no dependency, the words name none.
pub needs-wrong : (image minimum : Text) (words : List Text) → need_of image minimum ≡ None
    → needs_of (image ∷ minimum ∷ words) ≡ None
unfolding needs_of
needs-wrong image minimum words wrong = rw wrong refl

-- The dependency of the first two words comes before those of the others.
pub needs-more : (image minimum : Text) (words : List Text) (need : Dependency)
    → need_of image minimum ≡ Some need
    → needs_of (image ∷ minimum ∷ words) ≡ option_map (λ needs. need ∷ needs) (needs_of words)
unfolding needs_of
needs-more image minimum words need says = rw says refl

-- No words name no dependency, and a single word names nothing.
pub needs-none : needs_of [] ≡ Some []
unfolding needs_of
needs-none = refl

pub needs-odd : (word : Text) → needs_of (word ∷ []) ≡ None
unfolding needs_of
needs-odd word = refl

-- Dependencies before others, one by one.
pub behind-more : (before : List Dependency) (need : Dependency) (needs : Option (List Dependency))
    → option_map (λ later. (before ++ need ∷ []) ++ later) needs
    ≡ option_map (λ later. before ++ later) (option_map (λ later. need ∷ later) needs)
behind-more before need None = refl
behind-more before need (Some needs) = ap Some (append_assoc before (need ∷ []) needs)

-- If the first two of the remaining words name no dependency, the remaining words name none.
pub rest-wrong : (rest : List (Bor Text)) (none : Bor Text) → 2 ≤ length rest
    → need_of (get_or rest 0 none).now (get_or rest 1 none).now ≡ None → needs_of (texts_of rest) ≡ None
rest-wrong [] none long wrong = absurd (omega arith)
rest-wrong (a ∷ []) none long wrong = absurd (omega arith)
rest-wrong (a ∷ b ∷ rest) none long wrong = needs-wrong a.now b.now (texts_of rest) wrong

-- If the first two of the remaining words name a dependency, it is the next one.
pub rest-more : (rest : List (Bor Text)) (none : Bor Text) (before : List Dependency) (need : Dependency) → 2 ≤ length rest
    → need_of (get_or rest 0 none).now (get_or rest 1 none).now ≡ Some need
    → option_map (λ later. (before ++ need ∷ []) ++ later) (needs_of (texts_of (take (length rest - 2) (drop 2 rest))))
    ≡ option_map (λ later. before ++ later) (needs_of (texts_of rest))
rest-more [] none before need long says = absurd (omega arith)
rest-more (a ∷ []) none before need long says = absurd (omega arith)
rest-more (a ∷ b ∷ rest) none before need long says =
    ap (λ (words : List (Bor Text)). option_map (λ later. (before ++ need ∷ []) ++ later) (needs_of (texts_of words)))
    (take_all (length (a ∷ b ∷ rest) - 2) rest (omega arith))
    ∙ behind-more before need (needs_of (texts_of rest))
    ∙ ap (option_map (λ later. before ++ later)) (sym (needs-more a.now b.now (texts_of rest) need says))

-- If no word remains, the earlier dependencies are all.
pub rest-done : (rest : List (Bor Text)) (before : List Dependency) → length rest ≡ 0
    → option_map (λ later. before ++ later) (needs_of (texts_of rest)) ≡ Some before
rest-done [] before done = ap (option_map (λ later. before ++ later)) needs-none ∙ ap Some (append-nil before)
rest-done (a ∷ rest) before done = absurd (omega arith)

-- If one word remains, it names no dependency.
pub rest-odd : (rest : List (Bor Text)) → length rest < 2 → (length rest ≡ 0 → ⊥) → needs_of (texts_of rest) ≡ None
rest-odd [] few some = absurd (some refl)
rest-odd (a ∷ []) few some = needs-odd a.now
rest-odd (a ∷ b ∷ rest) few some = absurd (omega arith)
