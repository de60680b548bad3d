-- Texts of the numbers below a bound that grows by 1.
use Rattle.std.proofs.Common.{◌≡◌, ℕ, zero, suc, ◌+◌, List, [], ◌∷◌, ◌++◌, sym, ap, ◌∙◌, add-one, zero-add, add-zero, arith}
use Rattle.std.specs.List.{flat_map, range_with_len}
use Rattle.std.proofs.lemmas.List.{flat_map_more}

-- A range that is longer by 1 ends with one more number.
range_with_len-more : (a n : ℕ) → range_with_len a (suc n) ≡ range_with_len a n ++ (a + n) ∷ []
range_with_len-more a zero = ap (λ k. k ∷ []) (sym (add-zero a))
range_with_len-more a (suc n) =
    let same : (a + 1) + n ≡ a + suc n = omega arith in
    ap (λ ks. a ∷ ks) (range_with_len-more (a + 1) n ∙ ap (λ k. range_with_len (a + 1) n ++ k ∷ []) same)

pub range-more : (n : ℕ) → range_with_len 0 (n + 1) ≡ range_with_len 0 n ++ n ∷ []
range-more n =
    ap (λ k. range_with_len 0 k) (add-one n) ∙ range_with_len-more 0 n
    ∙ ap (λ k. range_with_len 0 n ++ k ∷ []) (zero-add n)

-- The text of one more number follows those of the others.
pub flat_map-range_more : (said : ℕ → List ℕ) (n : ℕ)
    → flat_map said (range_with_len 0 (n + 1)) ≡ flat_map said (range_with_len 0 n) ++ said n
flat_map-range_more said n =
    ap (λ k. flat_map said (range_with_len 0 k)) (add-one n)
    ∙ ap (flat_map said) (range_with_len-more 0 n)
    ∙ sym (flat_map_more said [] (range_with_len 0 n) (0 + n))
    ∙ ap (λ k. flat_map said (range_with_len 0 n) ++ said k) (zero-add n)
