-- Lemmas for a manifest that names an image twice: its components are compared from the first one on.
use Rattle.std.proofs.Common.{◌≡◌, ◌≢◌, suc, ◌-◌, ◌≤◌, List, [], ◌∷◌, length, get_or, take, drop, sym, subst, arith}
use Rattle.std.specs.Prelude.{All, AllPairs}
use Rattle.std.proofs.lemmas.List.{take_all}
use Rattle.std.proofs.lemmas.List.Kept.{AllPairs-cons}
use Rattle.manifest.specs.declared.manifest.Component.{Component}

-- Two components are for different images.
abbrev pub IsOther : Component → Component → Type 0
IsOther one other = one.image ≢ other.image

-- All components but the first one.
abbrev pub others : List Component → List Component
others xs = take (length xs - 1) (drop 1 xs)

-- The others are for other images than the first component.
abbrev pub IsAlone : List Component → Component → Type 0
IsAlone xs d = All (λ component. (get_or xs 0 d).image ≢ component.image) (others xs)

others_of : (x : Component) (ys : List Component) → others (x ∷ ys) ≡ ys
others_of x ys = take_all (length (x ∷ ys) - 1) ys (omega (arith))

pub once_by_first : (xs : List Component) (d : Component) → 1 ≤ length xs → IsAlone xs d → AllPairs IsOther (others xs)
    → AllPairs IsOther xs
once_by_first [] d some alone once = absurd (omega (arith, some))
once_by_first (x ∷ ys) d some alone once =
    AllPairs-cons IsOther x ys (subst (λ l. All (IsOther x) l) (others_of x ys) alone)
    (subst (λ l. AllPairs IsOther l) (others_of x ys) once)

pub first_alone : (xs : List Component) (d : Component) → 1 ≤ length xs → AllPairs IsOther xs → IsAlone xs d
first_alone [] d some once = absurd (omega (arith, some))
first_alone (x ∷ ys) d some once =
    subst (λ l. All (IsOther x) l) (sym (others_of x ys))
    (λ k e within. once 0 (suc k) e (omega arith) (omega (arith, within)))

pub others_once : (xs : List Component) → 1 ≤ length xs → AllPairs IsOther xs → AllPairs IsOther (others xs)
others_once [] some once = absurd (omega (arith, some))
others_once (x ∷ ys) some once =
    subst (λ l. AllPairs IsOther l) (sym (others_of x ys))
    (λ i j e before within. once (suc i) (suc j) e (omega (arith, before)) (omega (arith, within)))
