-- Texts of lists that grow by one element.
use Rattle.std.proofs.Common.{◌≡◌, ℕ, ◌+◌, ◌<◌, List, [], ◌∷◌, ◌++◌, length, get_or, take, sym, ap, ◌∙◌, append_assoc, decimal}
use Rattle.std.proofs.lemmas.List.{flat_map_more, take_more}
use Rattle.common.specs.Lines.{◌␣◌, printed_lines}
use Rattle.device_texts.specs.AnswerText.{line_text}
use Rattle.device_texts.proofs.TextLaws.{flat_map-range_more}

-- The text of one more element is a line of its own.
pub printed-more : {A : Type 0} (text_of : A → List ℕ) (xs : List A) (i : ℕ) (d : A) → i < length xs
    → printed_lines text_of (take i xs) ++ (text_of (get_or xs i d) ++ 10 ∷ [])
    ≡ printed_lines text_of (take (i + 1) xs)
printed-more text_of xs i d below =
    flat_map_more (λ thing. text_of thing ++ 10 ∷ []) [] (take i xs) (get_or xs i d)
    ∙ sym (ap (printed_lines text_of) (take_more xs i d below))

-- The same for the element at its place.
pub printed-item : {A : Type 0} (text_of : A → List ℕ) (xs : List A) (i : ℕ) (x : A) → i < length xs
    → x ≡ get_or xs i x
    → printed_lines text_of (take i xs) ++ (text_of x ++ 10 ∷ []) ≡ printed_lines text_of (take (i + 1) xs)
printed-item text_of xs i x below is =
    ap (λ y. printed_lines text_of (take i xs) ++ (text_of y ++ 10 ∷ [])) is ∙ printed-more text_of xs i x below

-- The text of a state is its lines in a row, after the last lines were added one by one.
pub state-in_a_row : (w kind n s set left q sequence floors swaps : List ℕ)
    → ((w ++ (kind ++ (n ++ (s ++ (set ++ (n ++ (left ++ (q ++ (sequence ++ n))))))))) ++ floors) ++ swaps
    ≡ (w ++ (kind ++ n)) ++ ((s ++ (set ++ n)) ++ (left ++ ((q ++ (sequence ++ n)) ++ (floors ++ swaps))))
state-in_a_row w kind n s set left q sequence floors swaps = simp append_assoc

-- The text of a description is its lines in a row, after the last lines were written one by one.
pub description-in_a_row : (v version n l size c counter d digest needs groups : List ℕ)
    → (v ++ (version ++ (n ++ (l ++ (size ++ (n ++ (c ++ (counter ++ (n ++ (d ++ (digest ++ n))))))))))) ++ (needs ++ groups)
    ≡ (v ++ (version ++ n)) ++ ((l ++ (size ++ n)) ++ ((c ++ (counter ++ n)) ++ ((d ++ (digest ++ n)) ++ (needs ++ groups))))
description-in_a_row v version n l size c counter d digest needs groups = simp append_assoc
