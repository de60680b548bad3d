-- Names are compared one after another.
use Rattle.std.proofs.Common.{◌≡◌, ◌↔◌, ℕ, ◌+◌, ◌<◌, List, [], ◌∷◌, String, Global, Bor, map, length, get_or, drop, string_bytes, sym, ap, ◌∙◌, add-one, arith, drop-cons, length-drop}
use Rattle.std.proofs.lemmas.List.{length-map}
use Rattle.common.proofs.Items.{same_cons}

-- A fact holds exactly if the remaining names are equal to those that are still to compare.
abbrev pub IsLeft : Type 0 → List (String Global) → List (Bor (List ℕ)) → ℕ → Type 0
IsLeft P own names place = P ↔ (map string_bytes own ≡ map (λ name. name.now) (drop place names))

-- The names that are still to compare begin with the one at this place.
first_left : (names : List (Bor (List ℕ))) (place : ℕ) (d : Bor (List ℕ)) → place < length names → map (λ name. name.now) (drop place names) ≡ (get_or names place d).now ∷ map (λ name. name.now) (drop (place + 1) names)
first_left names place d within = rw (add-one, drop-cons names place d within)

-- One more name is equal.
pub left_more : (P : Type 0) (own later : List (String Global)) (next : String Global) (names : List (Bor (List ℕ))) (place : ℕ) (d : Bor (List ℕ)) → IsLeft P own names place → own ≡ next ∷ later → place < length names → string_bytes next ≡ (get_or names place d).now → IsLeft P later names (place + 1)
left_more P own later next names place d left is within same =
    let here = first_left names place d within in (
      λ p. (same_cons _ _ _ _ (sym (ap (map string_bytes) is) ∙ left.0 p ∙ here)).1,
      λ rest. left.1 (ap (map string_bytes) is ∙ cc (same, rest) ∙ sym here),
    )

-- The next name is different.
pub left_other : (P : Type 0) (own later : List (String Global)) (next : String Global) (names : List (Bor (List ℕ))) (place : ℕ) (d : Bor (List ℕ)) → IsLeft P own names place → own ≡ next ∷ later → place < length names → (string_bytes next ≡ (get_or names place d).now → ⊥) → P → ⊥
left_other P own later next names place d left is within other p =
    other (same_cons _ _ _ _ (sym (ap (map string_bytes) is) ∙ left.0 p ∙ first_left names place d within)).0

-- No name remains, but one is still to compare.
pub left_none : (P : Type 0) (own : List (String Global)) (names : List (Bor (List ℕ))) (place : ℕ)
    → IsLeft P own names place → own ≡ [] → place < length names → P → ⊥
left_none P own names place left none within p =
    let others = map (λ (name : Bor (List ℕ)). name.now) (drop place names) in
    let same : length others ≡ 0 = ap length (sym (left.0 p) ∙ ap (map string_bytes) none) in
    omega (arith, same, length-map (drop place names) (λ (name : Bor (List ℕ)). name.now), length-drop place names)
