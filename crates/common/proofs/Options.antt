-- Lemmas about facts and tests of the value in an option.
use Rattle.std.proofs.Common.{◌≡◌, Bool, true, false, Option, Some, None, ◌⊎◌, inl, inr, refl, sym, subst}
use Rattle.std.specs.Prelude.{IfSome, IsSomeAnd, is_none, is_some, option_and_then, option_map}
use Rattle.std.specs.Option.{option_map_or}
use Rattle.std.proofs.lemmas.Bool.{false≢true, true≢false}
use Rattle.std.proofs.lemmas.Option.{none-some, same_Some}

-- An option is `None` or `Some`.
pub cases_option : {A : Type 0} (r : Option A) → (r ≡ None) ⊎ ((x : A) × (r ≡ Some x))
cases_option None = inl refl
cases_option (Some x) = inr (x, refl)

-- If a fact holds of the value in an option, there is a value.
pub opened : {X : Type 0} (o : Option X) (P : X → Type 0) → IsSomeAnd o P → (x : X) × (o ≡ Some x) × P x
opened None P some = absurd some
opened (Some x) P some = (x, refl, some)

-- The fact holds of the value that the option has.
pub IsSomeAnd-at : {X : Type 0} (o : Option X) (P : X → Type 0) (x : X) → o ≡ Some x → IsSomeAnd o P → P x
IsSomeAnd-at o P x is some = subst (λ w. IsSomeAnd w P) is some

-- A fact holds of the value in an option, if it holds of each value that the option may have.
pub IfSome-from : {X : Type 0} (o : Option X) (P : X → Type 0) → ((x : X) → o ≡ Some x → P x) → IfSome o P
IfSome-from None P each = tt
IfSome-from (Some x) P each = each x refl

-- A fact holds of the value in an option, if it holds of the value that the option has.
pub IsSomeAnd-from : {X : Type 0} (o : Option X) (P : X → Type 0) (x : X) → o ≡ Some x → P x → IsSomeAnd o P
IsSomeAnd-from o P x is here = subst (λ w. IsSomeAnd w P) (sym is) here

-- An option that isn't `None` has a value.
pub some_value : {X : Type 0} (o : Option X) → is_none o ≡ false → (x : X) × (o ≡ Some x)
some_value None some = absurd (true≢false some)
some_value (Some x) some = (x, refl)

-- An option that is `Some` has a value.
pub is_some_value : {X : Type 0} (o : Option X) → is_some o ≡ true → (x : X) × (o ≡ Some x)
is_some_value None some = absurd (false≢true some)
is_some_value (Some x) some = (x, refl)

-- An option that has no value is `None`.
pub no_value : {X : Type 0} (o : Option X) → is_none o ≡ true → o ≡ None
no_value None none = refl
no_value (Some x) none = absurd cc

-- A mapped option with a value comes from a value.
pub option_map-Some : {X Y : Type 0} (f : X → Y) (o : Option X) (y : Y) → option_map f o ≡ Some y → (x : X) × (o ≡ Some x) × (f x ≡ y)
option_map-Some f None y is = absurd (none-some y is)
option_map-Some f (Some x) y is = (x, refl, same_Some (f x) y is)

-- A mapped option without a value comes from `None`.
pub option_map-None : {X Y : Type 0} (f : X → Y) (o : Option X) → option_map f o ≡ None → o ≡ None
option_map-None f None none = refl
option_map-None f (Some x) none = absurd (none-some (f x) (sym none))

-- Mapping twice is mapping once by both functions.
pub option_map-option_map : {X Y Z : Type 0} (f : Y → Z) (g : X → Y) (o : Option X) → option_map f (option_map g o) ≡ option_map (λ x. f (g x)) o
option_map-option_map f g None = refl
option_map-option_map f g (Some x) = refl

-- If a test that is false for `None` holds, there is a value that passes it.
pub option_map_or-true : {X : Type 0} (test : X → Bool) (o : Option X) → option_map_or test o false ≡ true → (x : X) × (o ≡ Some x) × (test x ≡ true)
option_map_or-true test None passed = absurd (false≢true passed)
option_map_or-true test (Some x) passed = (x, refl, passed)

-- If such a test holds, the value that the option has passes it.
pub option_map_or-at : {X : Type 0} (test : X → Bool) (o : Option X) (x : X) → o ≡ Some x → option_map_or test o false ≡ true → test x ≡ true
option_map_or-at test o x is passed = subst (λ w. option_map_or test w false ≡ true) is passed

-- A test of a mapped option is a test of the option.
pub option_map_or-option_map : {X Y Z : Type 0} (f : Y → Z) (g : X → Y) (o : Option X) (d : Z) → option_map_or f (option_map g o) d ≡ option_map_or (λ x. f (g x)) o d
option_map_or-option_map f g None d = refl
option_map_or-option_map f g (Some x) d = refl

-- If two steps in turn give a value, so does the first one.
pub and_then_some : {A B : Type 0} (r : Option A) (f : A → Option B) (y : B) → option_and_then f r ≡ Some y → (x : A) × (r ≡ Some x) × (f x ≡ Some y)
and_then_some None f y e = absurd (none-some y e)
and_then_some (Some x) f y e = (x, refl, e)

-- If a chain gives no value after a first value, its second step gives none.
pub option_and_then-None : {X Y : Type 0} (f : X → Option Y) (o : Option X) (x : X) → o ≡ Some x → option_and_then f o ≡ None → f x ≡ None
option_and_then-None f o x is none = subst (λ w. option_and_then f w ≡ None) is none

-- Two second steps that are equal for each value are equal after the same first step.
pub same_after : {S B : Type 0} (r : Option S) (f g : S → Option B) → ((s : S) → f s ≡ g s) → option_and_then f r ≡ option_and_then g r
same_after None f g same = refl
same_after (Some s) f g same = same s
