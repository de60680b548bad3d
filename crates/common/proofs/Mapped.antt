-- Lemmas about facts of each item of a mapped list, alone and in pairs with another list.
use Rattle.std.proofs.Common.{◌≡◌, ℕ, zero, suc, ◌+◌, ◌<◌, List, [], ◌∷◌, ◌++◌, map, length, get_or, take, sym, subst, add-one, arith}
use Rattle.std.specs.Prelude.{All}
use Rattle.std.specs.List.{AllByRecursion, AllZip}
use Rattle.std.proofs.Math.Seq.{take-suc}
use Rattle.std.proofs.lemmas.List.{map-append}

-- A fact of the image of each item is a fact of each mapped item.
pub AllByRecursion-map : {X Y : Type 0} (P : Y → Type 0) (f : X → Y) (xs : List X) → All (λ x. P (f x)) xs → AllByRecursion P (map f xs)
AllByRecursion-map P f [] each = tt
AllByRecursion-map P f (x ∷ xs) each = (each 0 x (omega arith), AllByRecursion-map P f xs (λ k d within. each (suc k) d (omega arith)))

-- A fact of each mapped item is a fact of the image of each item.
pub All-from_AllByRecursion-map : {X Y : Type 0} (P : Y → Type 0) (f : X → Y) (xs : List X) → AllByRecursion P (map f xs) → All (λ x. P (f x)) xs
All-from_AllByRecursion-map P f [] each k d within = absurd (omega arith)
All-from_AllByRecursion-map P f (x ∷ xs) each zero d within = each.0
All-from_AllByRecursion-map P f (x ∷ xs) each (suc k) d within = All-from_AllByRecursion-map P f xs each.1 k d (omega arith)

-- A fact of each pair, with one more pair.
pub AllZip-push : {A B : Type 0} (R : A → B → Type 0) (xs : List A) (ys : List B) (x : A) (y : B) → AllZip R xs ys → R x y → AllZip R (xs ++ x ∷ []) (ys ++ y ∷ [])
AllZip-push R [] [] x y each holds = (holds, tt)
AllZip-push R [] (z ∷ ys) x y each holds = absurd each
AllZip-push R (z ∷ xs) [] x y each holds = absurd each
AllZip-push R (w ∷ xs) (z ∷ ys) x y each holds = (each.0, AllZip-push R xs ys x y each.1 holds)

-- The same, with the next item of a list.
pub AllZip-more : {X A B : Type 0} (R : A → B → Type 0) (f : X → A) (xs : List X) (ys : List B) (place : ℕ) (x : X) (y : B) → place < length xs → x ≡ get_or xs place x → AllZip R (map f (take place xs)) ys → R (f x) y → AllZip R (map f (take (place + 1) xs)) (ys ++ y ∷ [])
AllZip-more R f xs ys place x y within is each holds =
    rw (add-one, take-suc xs place x within, ← is, map-append) (AllZip-push R (map f (take place xs)) ys (f x) y each holds)

-- Each item has a partner in the other list.
pub AllZip-at : {X A B : Type 0} (R : A → B → Type 0) (f : X → A) (xs : List X) (ys : List B) (place : ℕ) (x : X) → place < length xs → x ≡ get_or xs place x → AllZip R (map f xs) ys → (y : B) × R (f x) y
AllZip-at R f [] ys place x within is each = absurd (omega arith)
AllZip-at R f (z ∷ xs) [] place x within is each = absurd each
AllZip-at R f (z ∷ xs) (y ∷ ys) zero x within is each = (y, subst (λ w. R (f w) y) (sym is) each.0)
AllZip-at R f (z ∷ xs) (y ∷ ys) (suc place) x within is each = AllZip-at R f xs ys place x (omega arith) is each.1
