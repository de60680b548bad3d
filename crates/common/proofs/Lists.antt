-- Lemmas about lists by index: what a test, a search, a count, a filter and a joined list say of
-- the element at an index.
use Rattle.std.proofs.Common.{◌≡◌, ℕ, zero, suc, ◌+◌, ◌<◌, Bool, true, false, cond, List, [], ◌∷◌, ◌++◌, take, Option, Some, None, ◌⊎◌, count_by, inl, inr, refl, sym, ap, subst, ◌∙◌, arith}
use Rattle.std.specs.Prelude.{IfSome, IsTrue, find, slice_get, Contains}
use Rattle.std.specs.List.{AllByRecursion, AllZip, cons_option, filter_map, list_all, list_any}
use Rattle.std.proofs.lemmas.Bool.{and_from, and_parts, or_parts, cases_Bool, cond-true, cond-false}
use Rattle.std.proofs.lemmas.List.{append-nil}
use Rattle.std.proofs.lemmas.List.Sums.{sum_by-cons}
use Rattle.std.proofs.lemmas.Option.{none-some, same_Some, slice_get_within, get_or_from_slice_get}

-- If all elements pass a test, the element at each index does.
pub IfSome-from_list_all : {X : Type 0} (p : X → Bool) (xs : List X) (k : ℕ) → list_all p xs ≡ true → IfSome (slice_get xs k) (λ x. IsTrue (p x))
IfSome-from_list_all p [] k all = tt
IfSome-from_list_all p (x ∷ xs) zero all = (and_parts (p x) (list_all p xs) all).0
IfSome-from_list_all p (x ∷ xs) (suc k) all = IfSome-from_list_all p xs k (and_parts (p x) (list_all p xs) all).1

-- If the element at each index passes a test, all elements do.
pub list_all-from_IfSome : {X : Type 0} (p : X → Bool) (xs : List X) → ((k : ℕ) → IfSome (slice_get xs k) (λ x. IsTrue (p x))) → list_all p xs ≡ true
list_all-from_IfSome p [] each = refl
list_all-from_IfSome p (x ∷ xs) each = and_from (p x) (list_all p xs) (each 0) (list_all-from_IfSome p xs (λ k. each (suc k)))

-- An element that passes a test, and its index.
pub record Passes {X : Type 0} (p : X → Bool) (xs : List X) : Type 0 where
  pub place : ℕ
  pub element : X
  pub at : slice_get xs place ≡ Some element
  pub passes : p element ≡ true

-- If any element passes a test, there is such an element.
pub Passes-from_list_any : {X : Type 0} (p : X → Bool) (xs : List X) → list_any p xs ≡ true → Passes p xs
Passes-from_list_any p [] any = absurd cc
Passes-from_list_any p (x ∷ xs) any =
    elim (cases_Bool (p x)) [
      | inl passed ↦ record { place = 0; element = x; at = refl; passes = passed }
      | inr failed ↦
          let later = Passes-from_list_any p xs (rw failed at any) in
          record { place = suc later.place; element = later.element; at = later.at; passes = later.passes }
    ]

-- If a count isn't 0, an element passes.
pub Passes-from_count_by : {X : Type 0} (p : X → Bool) (xs : List X) → 0 < count_by p xs → Passes p xs
Passes-from_count_by p [] some = absurd (omega arith)
Passes-from_count_by p (x ∷ xs) some =
    elim (cases_Bool (p x)) [
      | inl passed ↦ record { place = 0; element = x; at = refl; passes = passed }
      | inr failed ↦
          let counted : 0 < cond (p x) 1 0 + count_by p xs = rw (← sum_by-cons (λ y. cond (p y) 1 0) x xs) some in
          let rest : 0 < count_by p xs = omega (arith, rw failed at counted) in
          let later = Passes-from_count_by p xs rest in
          record { place = suc later.place; element = later.element; at = later.at; passes = later.passes }
    ]

-- An element of a prefix of a list has the same index in the list.
pub slice_get-take : {X : Type 0} (n k : ℕ) (xs : List X) (x : X) → slice_get (take n xs) k ≡ Some x → (k < n) × (slice_get xs k ≡ Some x)
slice_get-take zero k xs x at = absurd (none-some x at)
slice_get-take (suc n) k [] x at = absurd (none-some x at)
slice_get-take (suc n) zero (y ∷ xs) x at = (omega arith, at)
slice_get-take (suc n) (suc k) (y ∷ xs) x at =
    let later = slice_get-take n k xs x at in
    (omega (arith, later.0), later.1)

-- 1 for a test that holds, 0 for one that doesn't.
abbrev counted_once : Bool → ℕ
counted_once test = cond test 1 0

-- If no element passes a test, the count is 0.
pub count_by-none : {X : Type 0} (p : X → Bool) (xs : List X) → list_any p xs ≡ false → count_by p xs ≡ 0
count_by-none p [] none = refl
count_by-none p (x ∷ xs) none =
    let parts = or_parts (p x) (list_any p xs) none in
    omega (arith, sum_by-cons (λ y. counted_once (p y)) x xs, ap counted_once parts.0, count_by-none p xs parts.1)

-- If any element passes a test, the count isn't 0.
pub count_by-some : {X : Type 0} (p : X → Bool) (xs : List X) → list_any p xs ≡ true → 0 < count_by p xs
count_by-some p [] some = absurd cc
count_by-some p (x ∷ xs) some =
    let count = sum_by-cons (λ y. counted_once (p y)) x xs in
    elim (cases_Bool (p x)) [
      | inl pass ↦ omega (arith, count, ap counted_once pass)
      | inr fail ↦ omega (arith, count, count_by-some p xs (rw fail at some))
    ]

-- A list has an element at some index.
pub record StandsIn {X : Type 0} (xs : List X) (x : X) : Type 0 where
  pub place : ℕ
  pub at : slice_get xs place ≡ Some x

-- An element that was found is in the list, and passes.
pub find-Some : {X : Type 0} (p : X → Bool) (xs : List X) (x : X) → find p xs ≡ Some x → StandsIn xs x × (p x ≡ true)
find-Some p [] x found = absurd (none-some x found)
find-Some p (y ∷ xs) x found =
    elim (cases_Bool (p y)) [
      | inl pass ↦
          let same : y ≡ x = same_Some y x (sym (cond-true (p y) (Some y) (find p xs) pass) ∙ found) in
          (record { place = 0; at = ap Some same }, ap p (sym same) ∙ pass)
      | inr fail ↦
          let (later, passes) = find-Some p xs x (sym (cond-false (p y) (Some y) (find p xs) fail) ∙ found) in
          (record { place = suc later.place; at = later.at }, passes)
    ]

-- If a search finds nothing, the first element fails, and no later one is found.
find-None : {X : Type 0} (p : X → Bool) (x : X) (xs : List X) → find p (x ∷ xs) ≡ None → (p x ≡ false) × (find p xs ≡ None)
find-None p x xs none =
    elim (cases_Bool (p x)) [
      | inl pass ↦ absurd (none-some x (sym none ∙ cond-true (p x) (Some x) (find p xs) pass))
      | inr fail ↦ (fail, sym (cond-false (p x) (Some x) (find p xs) fail) ∙ none)
    ]

-- If two searches find nothing, each element fails both tests.
pub list_all-from_finds : {X : Type 0} (p q r : X → Bool) → ((x : X) → p x ≡ false → q x ≡ false → r x ≡ true) → (xs : List X) → find p xs ≡ None → find q xs ≡ None → list_all r xs ≡ true
list_all-from_finds p q r both [] no_p no_q = refl
list_all-from_finds p q r both (x ∷ xs) no_p no_q =
    let fails_p = find-None p x xs no_p in
    let fails_q = find-None q x xs no_q in
    and_from (r x) (list_all r xs) (both x fails_p.0 fails_q.0) (list_all-from_finds p q r both xs fails_p.1 fails_q.1)

-- If all elements pass a test, they pass a weaker one.
pub list_all-weaker : {X : Type 0} (p q : X → Bool) → ((x : X) → p x ≡ true → q x ≡ true) → (xs : List X) → list_all p xs ≡ true → list_all q xs ≡ true
list_all-weaker p q weaker [] all = refl
list_all-weaker p q weaker (x ∷ xs) all =
    let parts = and_parts (p x) (list_all p xs) all in
    and_from (q x) (list_all q xs) (weaker x parts.0) (list_all-weaker p q weaker xs parts.1)

-- An element at some index is contained in the list.
pub Contains-from_stands : {X : Type 0} (xs : List X) (x : X) → StandsIn xs x → Contains xs x
Contains-from_stands xs x stands =
    (stands.place, slice_get_within xs stands.place x stands.at, get_or_from_slice_get xs stands.place x x stands.at)

-- An element of a list is an element of a longer one.
StandsIn-cons : {X : Type 0} (y : X) (xs : List X) (x : X) → StandsIn xs x → StandsIn (y ∷ xs) x
StandsIn-cons y xs x stands = record { place = suc stands.place; at = stands.at }

-- An element of a list is its first one, or is in the rest.
stands_cases : {X : Type 0} (y : X) (xs : List X) (x : X) (k : ℕ) → slice_get (y ∷ xs) k ≡ Some x → (Some y ≡ Some x) ⊎ StandsIn xs x
stands_cases y xs x zero at = inl at
stands_cases y xs x (suc k) at = inr (record { place = k; at = at })

-- An element of a list that begins with an optional element is this element, or is in the rest.
cons_option-stands : {Y : Type 0} (o : Option Y) (ys : List Y) (y : Y) → StandsIn (cons_option o ys) y → (o ≡ Some y) ⊎ StandsIn ys y
cons_option-stands None ys y stands = inr stands
cons_option-stands (Some z) ys y stands = stands_cases z ys y stands.place stands.at

-- An element of a filtered list comes from an element of the list.
pub filter_map-source : {X Y : Type 0} (h : X → Option Y) (xs : List X) (y : Y) → StandsIn (filter_map h xs) y → (x : X) × StandsIn xs x × (h x ≡ Some y)
filter_map-source h [] y stands = absurd (none-some y stands.at)
filter_map-source h (x ∷ xs) y stands =
    elim (cons_option-stands (h x) (filter_map h xs) y stands) [
      | inl here ↦ (x, record { place = 0; at = refl }, here)
      | inr later ↦
          let (w, stands_there, gives) = filter_map-source h xs y later in
          (w, StandsIn-cons x xs w stands_there, gives)
    ]

-- If no element of such a list passes a test, neither does the optional element.
cons_option-none : {Y : Type 0} (p : Y → Bool) (o : Option Y) (ys : List Y) → list_any p (cons_option o ys) ≡ false → IfSome o (λ y. p y ≡ false) × (list_any p ys ≡ false)
cons_option-none p None ys none = (tt, none)
cons_option-none p (Some y) ys none = or_parts (p y) (list_any p ys) none

-- If no element of a filtered list passes a test, neither does the image of any element.
pub filter_map-none : {X Y : Type 0} (h : X → Option Y) (p : Y → Bool) (xs : List X) (k : ℕ) (x : X) → list_any p (filter_map h xs) ≡ false → slice_get xs k ≡ Some x → IfSome (h x) (λ y. p y ≡ false)
filter_map-none h p [] k x none at = absurd (none-some x at)
filter_map-none h p (w ∷ xs) zero x none at =
    subst (λ v. IfSome (h v) (λ y. p y ≡ false)) (same_Some w x at) (cons_option-none p (h w) (filter_map h xs) none).0
filter_map-none h p (w ∷ xs) (suc k) x none at =
    filter_map-none h p xs k x (cons_option-none p (h w) (filter_map h xs) none).1 at

-- If a fact holds at each index of two lists, given the elements before it, it holds at each index
-- of the joined list.
pub each-append : {X : Type 0} (Q : List X → X → Type 0) (xs ys : List X) → ((k : ℕ) → IfSome (slice_get xs k) (Q (take k xs))) → ((k : ℕ) → IfSome (slice_get ys k) (Q (xs ++ take k ys))) → (k : ℕ) → IfSome (slice_get (xs ++ ys) k) (Q (take k (xs ++ ys)))
each-append Q [] ys front back k = back k
each-append Q (x ∷ xs) ys front back zero = front 0
each-append Q (x ∷ xs) ys front back (suc k) = each-append (λ zs. Q (x ∷ zs)) xs ys (λ i. front (suc i)) back k

-- The fact at one more element after a list.
each-last : {X : Type 0} (Q : List X → X → Type 0) (xs : List X) (y : X) → Q xs y → (k : ℕ) → IfSome (slice_get (y ∷ []) k) (Q (xs ++ take k (y ∷ [])))
each-last Q xs y last zero = subst (λ zs. Q zs y) (sym (append-nil xs)) last
each-last Q xs y last (suc k) = tt

-- The same for a list with one more element.
pub each-push : {X : Type 0} (Q : List X → X → Type 0) (xs : List X) (y : X) → ((k : ℕ) → IfSome (slice_get xs k) (Q (take k xs))) → Q xs y → (k : ℕ) → IfSome (slice_get (xs ++ y ∷ []) k) (Q (take k (xs ++ y ∷ [])))
each-push Q xs y front last = each-append Q xs (y ∷ []) front (each-last Q xs y last)

-- A fact of each element holds of the one at an index.
pub AllByRecursion-at : {X : Type 0} (P : X → Type 0) (xs : List X) (k : ℕ) (x : X) → slice_get xs k ≡ Some x → AllByRecursion P xs → P x
AllByRecursion-at P [] k x at all = absurd (none-some x at)
AllByRecursion-at P (y ∷ xs) zero x at all = subst P (same_Some y x at) all.0
AllByRecursion-at P (y ∷ xs) (suc k) x at all = AllByRecursion-at P xs k x at all.1

-- A fact of each element of two lists is a fact of each element of the joined one, and vice versa.
pub AllByRecursion-append : {X : Type 0} (P : X → Type 0) (xs ys : List X) → AllByRecursion P xs → AllByRecursion P ys → AllByRecursion P (xs ++ ys)
AllByRecursion-append P [] ys front back = back
AllByRecursion-append P (x ∷ xs) ys front back = (front.0, AllByRecursion-append P xs ys front.1 back)

pub AllByRecursion-parts : {X : Type 0} (P : X → Type 0) (xs ys : List X) → AllByRecursion P (xs ++ ys) → AllByRecursion P xs × AllByRecursion P ys
AllByRecursion-parts P [] ys all = (tt, all)
AllByRecursion-parts P (x ∷ xs) ys all =
    let later = AllByRecursion-parts P xs ys all.1 in
    ((all.0, later.0), later.1)

-- A fact of the second element of each pair, from what the pairs of two lists say.
pub AllByRecursion-from_AllZip : {X Y : Type 0} (R : X → Y → Type 0) (P : Y → Type 0) → ((x : X) (y : Y) → R x y → P y) → (xs : List X) (ys : List Y) → AllZip R xs ys → AllByRecursion P ys
AllByRecursion-from_AllZip R P gives [] [] zip = tt
AllByRecursion-from_AllZip R P gives [] (y ∷ ys) zip = absurd zip
AllByRecursion-from_AllZip R P gives (x ∷ xs) [] zip = absurd zip
AllByRecursion-from_AllZip R P gives (x ∷ xs) (y ∷ ys) zip = (gives x y zip.0, AllByRecursion-from_AllZip R P gives xs ys zip.1)
