-- Lemmas about lists, and about facts of each or some of their items.
use Rattle.std.proofs.Common.{◌≡◌, ℕ, zero, suc, ◌+◌, ◌<◌, List, [], ◌∷◌, ◌++◌, length, drop, refl, ap, subst, ◌∙◌, arith}
use Rattle.std.specs.List.{AllByRecursion, Any, slice_index_or}
use Rattle.std.proofs.lemmas.List.{drop-drop}

-- Equal lists have the same first element and the same rest.
pub same_cons : {X : Type 0} (x y : X) (xs ys : List X) → x ∷ xs ≡ y ∷ ys → (x ≡ y) × (xs ≡ ys)
same_cons x y xs ys e = (cc, cc)

-- Dropping elements twice is dropping their sum.
pub drop-from : {X : Type 0} (n place other : ℕ) (xs : List X) → place + n ≡ other
    → drop n (drop place xs) ≡ drop other xs
drop-from n place other xs e = drop-drop n place xs ∙ ap (λ (k : ℕ). drop k xs) e

-- A fact of each item, with one more item.
pub AllByRecursion-push : {X : Type 0} (P : X → Type 0) (xs : List X) (x : X) → AllByRecursion P xs → P x
    → AllByRecursion P (xs ++ x ∷ [])
AllByRecursion-push P [] x each holds = (holds, tt)
AllByRecursion-push P (y ∷ ys) x each holds = (each.0, AllByRecursion-push P ys x each.1 holds)

-- A fact of each item holds of the one at an index.
AllByRecursion-at : {X : Type 0} (P : X → Type 0) (xs : List X) (k : ℕ) (x : X) → AllByRecursion P xs
    → k < length xs → slice_index_or xs k x ≡ x → P x
AllByRecursion-at P [] k x each within here = absurd (omega arith)
AllByRecursion-at P (y ∷ ys) zero x each within here = subst P here each.0
AllByRecursion-at P (y ∷ ys) (suc k) x each within here = AllByRecursion-at P ys k x each.1 (omega arith) here

-- If a fact holds of each item, it fails for none.
pub AllByRecursion-no_Any : {X : Type 0} (P : X → Type 0) (xs : List X) → AllByRecursion P xs
    → Any (λ x. P x → ⊥) xs → ⊥
AllByRecursion-no_Any P xs each some = some.4 (AllByRecursion-at P xs some.0 some.1 each some.2 some.3)

-- A fact of an item between others holds of some item.
pub Any-between : {X : Type 0} (P : X → Type 0) (front back : List X) (x : X) → P x → Any P (front ++ x ∷ back)
Any-between P [] back x holds = (0, x, omega arith, refl, holds)
Any-between P (y ∷ front) back x holds =
    let later = Any-between P front back x holds in
    (suc later.0, later.1, omega (arith, later.2), later.3, later.4)
