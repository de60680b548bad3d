-- Laws of searches through lists, one after another.
use Rattle.std.proofs.Common.{◌≡◌, ◌⊎◌, Bool, true, false, cond, ◌||◌, List, [], ◌∷◌, Option, Some, None, inl, inr, refl, sym, ap, ◌∙◌}
use Rattle.std.specs.Prelude.{find, is_some, option_map}
use Rattle.std.specs.List.{list_any}
use Rattle.std.specs.Option.{option_or}
use Rattle.std.proofs.lemmas.Bool.{or_parts}
use Rattle.std.proofs.lemmas.Map.Keys.{any_passes_from_place}
use Rattle.std.proofs.lemmas.Option.{none-some}
use Rattle.common.proofs.Lists.{Passes-from_list_any}

-- A search finds something exactly if an element passes.
is_some-find : {X : Type 0} (p : X → Bool) (xs : List X) → is_some (find p xs) ≡ list_any p xs
is_some-find p [] = refl
is_some-find p (x ∷ xs) = first (p x) x (find p xs) (list_any p xs) (is_some-find p xs)
  where
    first : {X : Type 0} (passes : Bool) (x : X) (found : Option X) (later : Bool) → is_some found ≡ later
        → is_some (cond passes (Some x) found) ≡ (passes || later)
    first true x found later is = refl
    first false x found later is = is

-- Mapping an optional value keeps whether there is one.
is_some-option_map : {X Y : Type 0} (f : X → Y) (o : Option X) → is_some (option_map f o) ≡ is_some o
is_some-option_map f None = refl
is_some-option_map f (Some x) = refl

-- One of two optional values is there exactly if the first or the second is.
is_some-option_or : {X : Type 0} (first second : Option X)
    → is_some (option_or first second) ≡ (is_some first || is_some second)
is_some-option_or None second = refl
is_some-option_or (Some x) second = refl

-- One of two searches finds something exactly if an element of its list passes.
pub is_some-first_found : {X Y Z : Type 0} (f : X → Z) (g : Y → Z) (p : X → Bool) (q : Y → Bool) (xs : List X)
    (ys : List Y) → is_some (option_or (option_map f (find p xs)) (option_map g (find q ys)))
    ≡ (list_any p xs || list_any q ys)
is_some-first_found f g p q xs ys =
    is_some-option_or (option_map f (find p xs)) (option_map g (find q ys))
    ∙ ap (λ passes. passes || is_some (option_map g (find q ys)))
    (is_some-option_map f (find p xs) ∙ is_some-find p xs)
    ∙ ap (λ passes. list_any p xs || passes) (is_some-option_map g (find q ys) ∙ is_some-find q ys)

-- The first value of two is that of the one or of the other.
pub option_or-Some : {X : Type 0} (first second : Option X) (x : X) → option_or first second ≡ Some x
    → (first ≡ Some x) ⊎ (second ≡ Some x)
option_or-Some None second x is = inr is
option_or-Some (Some y) second x is = inl is

-- If two optional values have no first value, neither has one.
pub option_or-None : {X : Type 0} (first second : Option X) → option_or first second ≡ None
    → (first ≡ None) × (second ≡ None)
option_or-None None second none = (refl, none)
option_or-None (Some x) second none = absurd (none-some x (sym none))

-- Two searches that differ only on elements that pass a third test are the same if none passes it.
pub find-same : {X : Type 0} (p q other : X → Bool) → ((x : X) → other x ≡ false → p x ≡ q x) → (xs : List X)
    → list_any other xs ≡ false → find p xs ≡ find q xs
find-same p q other same [] none = refl
find-same p q other same (x ∷ xs) none =
    let parts = or_parts (other x) (list_any other xs) none in
    ap (λ b. cond b (Some x) (find p xs)) (same x parts.0)
    ∙ ap (λ found. cond (q x) (Some x) found) (find-same p q other same xs parts.1)

-- The same of two tests of all elements.
pub list_any-same : {X : Type 0} (p q other : X → Bool) → ((x : X) → other x ≡ false → p x ≡ q x) → (xs : List X)
    → list_any other xs ≡ false → list_any p xs ≡ list_any q xs
list_any-same p q other same [] none = refl
list_any-same p q other same (x ∷ xs) none =
    let parts = or_parts (other x) (list_any other xs) none in
    ap (λ b. b || list_any p xs) (same x parts.0)
    ∙ ap (λ later. q x || later) (list_any-same p q other same xs parts.1)

-- If an element passes, it passes a weaker test.
pub list_any-weaker : {X : Type 0} (p q : X → Bool) → ((x : X) → p x ≡ true → q x ≡ true) → (xs : List X)
    → list_any p xs ≡ true → list_any q xs ≡ true
list_any-weaker p q weaker xs any =
    let passing = Passes-from_list_any p xs any in
    any_passes_from_place q xs passing.place passing.element passing.at (weaker passing.element passing.passes)
