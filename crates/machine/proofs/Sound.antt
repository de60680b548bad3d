-- Running images stay intact and valid if a valid combination replaces them.
use Rattle.std.proofs.Common.{◌≡◌, ℕ, Bool, false, not, List, [], ◌∷◌, length, Option, Some, None}
use Rattle.std.proofs.Common.{refl, sym, ◌∙◌, ap, subst, zero, suc, slice_get, slice_index}
use Rattle.std.specs.Prelude.{IfSome, IsTrue, ◌&&◌, ◌||◌}
use Rattle.std.specs.List.{list_all, list_any}
use Rattle.std.specs.Option.{option_map_or}
use Rattle.std.proofs.lemmas.Bool.{false≢true}
use Rattle.std.proofs.lemmas.Option.{none-some}
use Rattle.version_order.specs.declared.dependency.Dependency.{Dependency}
use Rattle.version_order.specs.declared.group.Group.{Group}
use Rattle.version_order.specs.Order.{is_older}
use Rattle.reports.specs.declared.table.Table.{Table}
use Rattle.reports.specs.declared.table.Image.{Image}
use Rattle.reports.specs.declared.table.Entry.{Entry}
use Rattle.reports.specs.declared.table.Request.{Request}
use Rattle.reports.specs.Combination.{HasMetDependencies, IsValid, entry_in, is_group_met, is_met, meets_all, reaches}
use Rattle.reports.specs.Combination.{running_set}
use Rattle.machine.specs.Device.{DeviceState}
use Rattle.machine.specs.Boots.{IsEntryOf, IsRequestOf, IsRowOf, IsSound, IsTableOf}

pub the_one : {X : Type 0} (x y : X) → Some x ≡ Some y → x ≡ y
the_one x y e = cc

-- ---- lists of rows

none_at : {X : Type 0} (k : ℕ) (x : X) → slice_get [] k ≡ Some x → ⊥
none_at zero x e = cc
none_at (suc k) x e = cc

-- A list is made from another one, element by element.
pub record IsMadeOf (R : ℕ → Image → Image → Type 0) (xs ys : List Image) : Type 0 where
  pub size : length ys ≡ length xs
  pub back : (k : ℕ) (y : Image) → slice_get ys k ≡ Some y → (x : Image) × (slice_get xs k ≡ Some x) × R k x y
  pub to : (k : ℕ) (x : Image) → slice_get xs k ≡ Some x → (y : Image) × (slice_get ys k ≡ Some y) × R k x y

each_made : (R : ℕ → Image → Image → Type 0) (xs : List Image)
    → ((k : ℕ) (x : Image) → slice_get xs k ≡ Some x → (y : Image) × R k x y)
    → (ys : List Image) × IsMadeOf R xs ys
each_made R [] make = (
  [],
  record {
    size = refl;
    back = λ k y at. absurd (none_at k y at);
    to = λ k x at. absurd (none_at k x at);
  },
)
each_made R (x ∷ xs) make =
    let first = make 0 x refl in
    let rest = each_made (λ k. R (suc k)) xs (λ k z at. make (suc k) z at) in (
      first.0 ∷ rest.0,
      record {
        size = ap suc rest.1.size;
        back = back first.0 first.1 rest.0 rest.1;
        to = to first.0 first.1 rest.0 rest.1;
      },
    )
  where
    back : (y : Image) → R 0 x y → (ys : List Image) → IsMadeOf (λ k. R (suc k)) xs ys
        → (k : ℕ) (z : Image) → slice_get (y ∷ ys) k ≡ Some z
        → (w : Image) × (slice_get (x ∷ xs) k ≡ Some w) × R k w z
    back y made ys rest zero z at = (x, refl, subst (λ v. R 0 x v) (the_one y z at) made)
    back y made ys rest (suc k) z at = rest.back k z at

    to : (y : Image) → R 0 x y → (ys : List Image) → IsMadeOf (λ k. R (suc k)) xs ys
        → (k : ℕ) (z : Image) → slice_get (x ∷ xs) k ≡ Some z
        → (w : Image) × (slice_get (y ∷ ys) k ≡ Some w) × R k z w
    to y made ys rest zero z at = (y, refl, subst (λ v. R 0 v y) (the_one x z at) made)
    to y made ys rest (suc k) z at = rest.to k z at

-- ---- dependencies that are met

if_some : {X : Type 0} (o : Option X) (P : X → Type 0) → ((x : X) → o ≡ Some x → P x) → IfSome o P
if_some None P each = tt
if_some (Some x) P each = each x refl

of_some : {X : Type 0} (o : Option X) (P : X → Type 0) (x : X) → o ≡ Some x → IfSome o P → P x
of_some None P x e all = absurd (none-some x e)
of_some (Some y) P x e all = subst P (the_one y x e) all

same_all : {X : Type 0} (p q : X → Bool) (xs : List X) → ((x : X) → p x ≡ q x) → list_all p xs ≡ list_all q xs
same_all p q [] same = refl
same_all p q (x ∷ xs) same = ap (λ b. b && list_all p xs) (same x) ∙ ap (λ b. q x && b) (same_all p q xs same)

same_any : {X : Type 0} (p q : X → Bool) (xs : List X) → ((x : X) → p x ≡ q x) → list_any p xs ≡ list_any q xs
same_any p q [] same = refl
same_any p q (x ∷ xs) same = ap (λ b. b || list_any p xs) (same x) ∙ ap (λ b. q x || b) (same_any p q xs same)

same_option : (o p : Option Image) (f g : Image → Bool)
    → ((x : Image) → o ≡ Some x → (y : Image) × (p ≡ Some y) × (f x ≡ g y))
    → ((y : Image) → p ≡ Some y → (x : Image) × (o ≡ Some x)) → option_map_or f o false ≡ option_map_or g p false
same_option None None f g to back = refl
same_option None (Some y) f g to back = absurd (none-some _ (back y refl).1)
same_option (Some x) None f g to back = absurd (none-some _ (to x refl).1)
same_option (Some x) (Some y) f g to back =
    let found = to x refl in
    found.2 ∙ ap g (sym (the_one y found.0 found.1))

-- The row of an image in the next state: the entry of the combination runs.
abbrev IsRowAfter : (ℕ → Bool) → DeviceState → ℕ → Image → Image → Type 0
IsRowAfter taken t k x y = (y.running ≡ entry_in x (taken k))
    × IsRowOf (t.running k) (t.request k) (slice_index t.floors k) y

module _ (table : Table) (taken : ℕ → Bool) (t : DeviceState) (ys : List Image)
    (made : IsMadeOf (IsRowAfter taken t) table.images.items ys) where
  same_met : (d : Dependency) → is_met table taken d ≡ is_met (record { images = record { items = ys } }) running_set d
  same_met d = same_option (slice_get table.images.items d.image) (slice_get ys d.image)
      (reaches taken d.image d.minimum) (reaches running_set d.image d.minimum)
      (λ x at.
      let found = made.to d.image x at in
      (found.0, found.1, ap (λ (e : Entry). not (is_older e.version d.minimum)) (sym found.2.0)))
      (λ y at. let found = made.back d.image y at in (found.0, found.1))

  same_group_met : (g : Group)
      → is_group_met table taken g ≡ is_group_met (record { images = record { items = ys } }) running_set g
  same_group_met g = same_any (is_met table taken) (is_met (record { images = record { items = ys } }) running_set)
      g.alternatives.items same_met

  same_meets : (e : Entry)
      → meets_all table taken e ≡ meets_all (record { images = record { items = ys } }) running_set e
  same_meets e =
      ap (λ b. b && list_all (is_group_met table taken) e.groups.items)
      (same_all (is_met table taken) (is_met (record { images = record { items = ys } }) running_set)
      e.dependencies.items same_met)
      ∙ ap (λ b. list_all (is_met (record { images = record { items = ys } }) running_set) e.dependencies.items && b)
      (same_all (is_group_met table taken) (is_group_met (record { images = record { items = ys } }) running_set)
      e.groups.items same_group_met)

  valid_after : ((j : ℕ) → HasMetDependencies table taken j)
      → IsValid (record { images = record { items = ys } }) running_set
  valid_after met = record {
    members = λ j e. absurd (false≢true e);
    met = λ j. if_some (slice_get ys j)
        (λ y. IsTrue (meets_all (record { images = record { items = ys } }) running_set (entry_in y false)))
        (λ y at.
        let found = made.back j y at in
        let had = of_some (slice_get table.images.items j)
        (λ x. IsTrue (meets_all table taken (entry_in x (taken j)))) found.0 found.1 (met j) in
        sym (same_meets y.running) ∙ ap (meets_all table taken) found.2.0 ∙ had);
  }

-- A state is sound if it runs a valid combination of another state.
pub sound_to : (s t : DeviceState) (table : Table) (taken : ℕ → Bool) → t.images ≡ s.images → IsTableOf s table
    → ((j : ℕ) → HasMetDependencies table taken j)
    → ((i : ℕ) (row : Image) → slice_get table.images.items i ≡ Some row
    → IsEntryOf (t.running i) (entry_in row (taken i)))
    → ((i : ℕ) (row : Image) → slice_get table.images.items i ≡ Some row
    → (asked : Request) × IsRequestOf (t.request i) asked)
    → IsSound t
sound_to s t table taken images rows met runs asks =
    let made = each_made (IsRowAfter taken t) table.images.items (λ k x at.
    let q = asks k x at in (
      record { running = entry_in x (taken k); request = q.0; floor = slice_index t.floors k },
      (refl, record { running = runs k x at; request = q.1; floor = refl }),
    )) in (
      record { images = record { items = made.0 } },
      record {
        count = made.1.size ∙ rows.count ∙ sym images;
        rows = λ i row at. (made.1.back i row at).2.1;
      },
      valid_after table taken t made.0 made.1 met,
    )
