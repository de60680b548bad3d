-- Lemmas about lists whose elements are numbered from 0.
use Rattle.std.proofs.Common.{◌≡◌, ℕ, zero, suc, ◌+◌, ◌<◌, ◌≤◌, List, [], ◌∷◌, ◌++◌, length, get_or, take, Option, Some, None, zero-add, add-zero, refl, sym, ap, subst, ◌∙◌, arith}
use Rattle.std.specs.Prelude.{slice_get, option_map, option_to_list}
use Rattle.std.specs.List.{cons_option, enumerate_from, filter_map}
use Rattle.std.proofs.lemmas.List.{take_all, take_more}
use Rattle.std.proofs.lemmas.List.Elements.{filter_map-append}
use Rattle.std.proofs.lemmas.List.FromFn.{length-enumerate_from, get_or-enumerate_from}
use Rattle.common.proofs.Options.{option_map-Some}
use Rattle.common.proofs.Lists.{StandsIn}

-- A list of one element or none.
cons_option-nil : {Y : Type 0} (o : Option Y) → cons_option o [] ≡ option_to_list o
cons_option-nil None = refl
cons_option-nil (Some y) = refl

-- What one more numbered element adds to a filtered list.
pub filter_map-numbered_more : {X Y : Type 0} (h : ℕ × X → Option Y) (xs : List X) (i : ℕ) (x : X) → i < length xs → x ≡ get_or xs i x → filter_map h (take (i + 1) (enumerate_from 0 xs)) ≡ filter_map h (take i (enumerate_from 0 xs)) ++ option_to_list (h (i, x))
filter_map-numbered_more h xs i x within is =
    let numbered = enumerate_from 0 xs in
    let here : get_or numbered i (i, x) ≡ (i, x) = get_or-enumerate_from 0 xs i (i, x) within ∙ ap (λ n. (n, get_or xs i x)) (zero-add i) ∙ ap (λ y. (i, y)) (sym is) in
    ap (filter_map h) (take_more numbered i (i, x) (omega (arith, length-enumerate_from 0 xs)))
    ∙ filter_map-append h (take i numbered) (get_or numbered i (i, x) ∷ [])
    ∙ ap (λ y. filter_map h (take i numbered) ++ cons_option (h y) []) here
    ∙ ap (λ ys. filter_map h (take i numbered) ++ ys) (cons_option-nil (h (i, x)))

-- A prefix that is long enough has all numbered elements.
pub take-numbered_all : {X : Type 0} (xs : List X) (n : ℕ) → length xs ≤ n → take n (enumerate_from 0 xs) ≡ enumerate_from 0 xs
take-numbered_all xs n past = take_all n (enumerate_from 0 xs) (omega (arith, length-enumerate_from 0 xs))

-- The element at an index has the number of that index.
pub slice_get-enumerate_from : {X : Type 0} (n k : ℕ) (xs : List X) → slice_get (enumerate_from n xs) k ≡ option_map (λ x. (n + k, x)) (slice_get xs k)
slice_get-enumerate_from n k [] = refl
slice_get-enumerate_from n zero (x ∷ xs) = ap (λ m. Some (m, x)) (sym (add-zero n))
slice_get-enumerate_from n (suc k) (x ∷ xs) =
    let same : (n + 1) + k ≡ n + suc k = omega arith in
    slice_get-enumerate_from (n + 1) k xs ∙ ap (λ m. option_map (λ y. (m, y)) (slice_get xs k)) same

-- A numbered element is at the index of its number.
pub numbered-stands : {X : Type 0} (xs : List X) (numbered : ℕ × X) → StandsIn (enumerate_from 0 xs) numbered → slice_get xs numbered.0 ≡ Some numbered.1
numbered-stands {X} xs numbered stands =
    let k = stands.place in
    let (x, at, same) = option_map-Some _ (slice_get xs k) numbered (sym (slice_get-enumerate_from 0 k xs) ∙ stands.at) in
    let here : (k, x) ≡ numbered = ap (λ n. (n, x)) (sym (zero-add k)) ∙ same in
    subst (λ (p : ℕ × X). slice_get xs p.0 ≡ Some p.1) here at
