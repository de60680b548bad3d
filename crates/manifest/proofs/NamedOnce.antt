-- Components are compared with each other.
use Rattle.std.proofs.Common.{◌≡◌, ◌≢◌, ℕ, ◌+◌, ◌<◌, List, length, get_or, take, sym, ap, ◌∙◌, add-one, arith}
use Rattle.std.specs.Prelude.{Any, AllPairs}
use Rattle.std.proofs.Math.Seq.{take-suc}
use Rattle.std.proofs.lemmas.List.{get_or-take, get_or_default, length-take}
use Rattle.std.proofs.lemmas.List.Quantifiers.{all_pairs_push}
use Rattle.manifest.specs.declared.manifest.Component.{Component}

-- Two components are for different images.
abbrev pub IsOther : Component → Component → Type 0
IsOther one other = one.image ≢ other.image

-- One more component is for an image that no earlier component names.
pub once_more : (xs : List Component) (place : ℕ) (d : Component) → place < length xs → AllPairs IsOther (take place xs) → (Any (λ x. x.image ≡ (get_or xs place d).image) (take place xs) → ⊥) → AllPairs IsOther (take (place + 1) xs)
once_more xs place d within once new =
    rw (add-one, take-suc xs place d within) (all_pairs_push IsOther (take place xs) (get_or xs place d) once
    (λ k e short same. new (k, get_or (take place xs) k e, short, get_or_default (take place xs) k _ e short, same)))

-- One more component is for an image that an earlier component names.
pub repeated : (xs : List Component) (place : ℕ) (d : Component) → place < length xs → AllPairs IsOther xs → Any (λ x. x.image ≡ (get_or xs place d).image) (take place xs) → ⊥
repeated xs place d within once (k, x, short, here, same) =
    let before : k < place = omega (arith, length-take place xs) in
    let at : get_or xs k x ≡ x = sym (get_or-take place xs k x before) ∙ here in
    let default : get_or xs place d ≡ get_or xs place x = get_or_default xs place d x within in
    once k place x before within (ap (λ (c : Component). c.image) at ∙ same ∙ ap (λ (c : Component). c.image) default)
