-- The protected entries of an image that is made: their lengths, that they fit, and their values.
use Rattle.std.proofs.Common.{◌≡◌, ℕ, ◌+◌, ◌*◌, ◌^◌, ◌<◌, ◌≤◌, Option, None, Some, nat_eq, List, [], ◌∷◌, ◌++◌, length, map, unwrap_or, refl, ap, ◌∙◌, inl, inr, arith, length-append}
use Rattle.std.proofs.lemmas.Grind.{flat_map-append}
use Rattle.std.proofs.lemmas.List.{append-nil, map-append}
use Rattle.std.proofs.lemmas.List.Elements.{filter-append}
use Rattle.std.specs.List.{AllByRecursion, filter}
use Rattle.common.proofs.Lists.{AllByRecursion-append}
use Rattle.version_order.specs.declared.dependency.Dependency.{Dependency}
use Rattle.version_order.specs.declared.group.Group.{Group}
use Rattle.image_reading.specs.Area.{Entry, FitsArea, FitsEntry, entries_bytes, entry_bytes, values_of}
use Rattle.image_reading.specs.Fields.{SpellCounter, counter_bytes, counter_kind, dependency_bytes, dependency_kind, group_bytes, group_kind}
use Rattle.tlv.specs.Making.{AreGroups, HasAlternatives, area_size_of, counter_entries, dependency_entry, group_entry, need_entries}
use Rattle.image_reading.proofs.FieldLaws.{values_of-other, values_of-same}
use Rattle.image_reading.proofs.GroupLaws.{length-alternatives_bytes}

-- The protected entries, counter first.
abbrev entries_for : Option ℕ → List Dependency → List Group → List Entry
entries_for counter dependencies groups = counter_entries counter ++ need_entries dependencies groups

-- ---- lengths

-- The entry of a dependency has 16 bytes.
length-dependency_entries : (dependencies : List Dependency)
    → length (entries_bytes (map dependency_entry dependencies)) ≡ 16 * length dependencies
length-dependency_entries [] = refl
length-dependency_entries (dependency ∷ dependencies) = omega (arith, length-dependency_entries dependencies)

-- The entry of a group has 4 bytes, and 12 for each alternative.
pub length-group_entry : (group : Group)
    → length (entry_bytes (group_entry group)) ≡ 4 + 12 * length group.alternatives.items
length-group_entry group = omega (arith, length-alternatives_bytes group.alternatives.items)

-- The length of the entries of groups.
abbrev pub groups_size : List Group → ℕ
groups_size groups = length (entries_bytes (map group_entry groups))

pub groups_size-le : (groups : List Group) → AllByRecursion HasAlternatives groups
    → groups_size groups ≤ 52 * length groups
groups_size-le [] each = omega arith
groups_size-le (group ∷ groups) each =
    omega (
      arith,
      length-append (entry_bytes (group_entry group)) (entries_bytes (map group_entry groups)),
      length-group_entry group,
      each.0.most,
      groups_size-le groups each.1,
    )

-- The length of the counter's entry, if there is one.
abbrev counter_size : Option ℕ → ℕ
counter_size counter = length (entries_bytes (counter_entries counter))

counter_size-le : (counter : Option ℕ) → counter_size counter ≤ 8
counter_size-le None = omega arith
counter_size-le (Some counter) = omega arith

-- The length of the entries of dependencies and groups.
length-need_entries : (dependencies : List Dependency) (groups : List Group)
    → length (entries_bytes (need_entries dependencies groups)) ≡ 16 * length dependencies + groups_size groups
length-need_entries dependencies groups =
    ap length (flat_map-append entry_bytes (map dependency_entry dependencies) (map group_entry groups))
    ∙ length-append (entries_bytes (map dependency_entry dependencies)) (entries_bytes (map group_entry groups))
    ∙ ap (λ (n : ℕ). n + groups_size groups) (length-dependency_entries dependencies)

pub length-entries : (counter : Option ℕ) (dependencies : List Dependency) (groups : List Group)
    → length (entries_bytes (counter_entries counter ++ need_entries dependencies groups)) ≡ counter_size counter +
    (16 * length dependencies + groups_size groups)
length-entries None dependencies groups = omega (arith, length-need_entries dependencies groups)
length-entries (Some counter) dependencies groups = omega (arith, length-need_entries dependencies groups)

-- The area has its head if it has an entry, and is absent otherwise.
pub area_size_of-some : (entries : List Entry) → 0 < area_size_of entries + length (entries_bytes entries)
    → area_size_of entries ≡ 4 + length (entries_bytes entries)
area_size_of-some [] some = absurd (omega arith)
area_size_of-some (entry ∷ entries) some = refl

pub area_size_of-none : (entries : List Entry) → length (entries_bytes entries) ≡ 0 → area_size_of entries ≡ 0
area_size_of-none [] none = refl
area_size_of-none (entry ∷ entries) none = absurd (omega (arith, none))

area_size_of-within : (entries : List Entry) → area_size_of entries ≤ 4 + length (entries_bytes entries)
area_size_of-within [] = omega arith
area_size_of-within (entry ∷ entries) = omega arith

-- The protected area has at most 476 bytes.
pub area_size_of-le : (counter : Option ℕ) (dependencies : List Dependency) (groups : List Group)
    → length dependencies ≤ 16 → AreGroups groups
    → area_size_of (counter_entries counter ++ need_entries dependencies groups) ≤ 476
area_size_of-le counter dependencies groups few are =
    omega (
      arith,
      area_size_of-within (entries_for counter dependencies groups),
      length-entries counter dependencies groups,
      counter_size-le counter,
      few,
      are.few,
      groups_size-le groups are.each,
    )

-- ---- values

-- The values of two concatenated lists of entries.
values_of-append : (kind : ℕ) (xs ys : List Entry) → values_of kind (xs ++ ys) ≡ values_of kind xs ++ values_of kind ys
values_of-append kind xs ys =
    let own = filter (λ (entry : Entry). nat_eq entry.kind kind) in
    ap (map (λ (entry : Entry). entry.value)) (filter-append (λ (entry : Entry). nat_eq entry.kind kind) xs ys)
    ∙ map-append (λ (entry : Entry). entry.value) (own xs) (own ys)

-- Entries that all have a type give the values of all.
values_of-own : {X : Type 0} (kind : ℕ) (entry_of : X → Entry) → ((x : X) → (entry_of x).kind ≡ kind) → (xs : List X)
    → values_of kind (map entry_of xs) ≡ map (λ x. (entry_of x).value) xs
values_of-own kind entry_of same [] = refl
values_of-own kind entry_of same (x ∷ xs) =
    values_of-same kind (entry_of x) (map entry_of xs) (same x)
    ∙ ap (λ (values : List (List ℕ)). (entry_of x).value ∷ values) (values_of-own kind entry_of same xs)

-- Entries that all have another type give none.
values_of-others : {X : Type 0} (kind : ℕ) (entry_of : X → Entry) → ((x : X) → (entry_of x).kind ≡ kind → ⊥)
    → (xs : List X) → values_of kind (map entry_of xs) ≡ []
values_of-others kind entry_of other [] = refl
values_of-others kind entry_of other (x ∷ xs) =
    values_of-other kind (entry_of x) (map entry_of xs) (other x) ∙ values_of-others kind entry_of other xs

-- The values of the entries after the counter's, type by type.
need_values : (kind : ℕ) (dependencies : List Dependency) (groups : List Group) (front back : List (List ℕ))
    → values_of kind (map dependency_entry dependencies) ≡ front → values_of kind (map group_entry groups) ≡ back
    → values_of kind (need_entries dependencies groups) ≡ front ++ back
need_values kind dependencies groups front back e f =
    values_of-append kind (map dependency_entry dependencies) (map group_entry groups)
    ∙ ap (λ (values : List (List ℕ)). values ++ values_of kind (map group_entry groups)) e
    ∙ ap (λ (values : List (List ℕ)). front ++ values) f

dependency_values : (dependencies : List Dependency) (groups : List Group)
    → values_of dependency_kind (need_entries dependencies groups) ≡ map dependency_bytes dependencies
dependency_values dependencies groups =
    need_values dependency_kind dependencies groups (map dependency_bytes dependencies) []
    (values_of-own dependency_kind dependency_entry (λ _. refl) dependencies)
    (values_of-others dependency_kind group_entry (λ _ same. omega (arith, same)) groups)
    ∙ append-nil (map dependency_bytes dependencies)

group_values : (dependencies : List Dependency) (groups : List Group)
    → values_of group_kind (need_entries dependencies groups) ≡ map group_bytes groups
group_values dependencies groups =
    need_values group_kind dependencies groups [] (map group_bytes groups)
    (values_of-others group_kind dependency_entry (λ _ same. omega (arith, same)) dependencies)
    (values_of-own group_kind group_entry (λ _. refl) groups)

no_counter : (dependencies : List Dependency) (groups : List Group)
    → values_of counter_kind (need_entries dependencies groups) ≡ []
no_counter dependencies groups =
    need_values counter_kind dependencies groups [] []
    (values_of-others counter_kind dependency_entry (λ _ same. omega (arith, same)) dependencies)
    (values_of-others counter_kind group_entry (λ _ same. omega (arith, same)) groups)

-- The counter's entry has another type.
pub values_of-dependency_kind : (counter : Option ℕ) (dependencies : List Dependency) (groups : List Group)
    → values_of dependency_kind (counter_entries counter ++ need_entries dependencies groups) ≡ map dependency_bytes
    dependencies
values_of-dependency_kind None dependencies groups = dependency_values dependencies groups
values_of-dependency_kind (Some counter) dependencies groups = dependency_values dependencies groups

pub values_of-group_kind : (counter : Option ℕ) (dependencies : List Dependency) (groups : List Group)
    → values_of group_kind (counter_entries counter ++ need_entries dependencies groups) ≡ map group_bytes groups
values_of-group_kind None dependencies groups = group_values dependencies groups
values_of-group_kind (Some counter) dependencies groups = group_values dependencies groups

-- The counter is the given one, or 0 if none is given.
pub spells_counter : (counter : Option ℕ) (dependencies : List Dependency) (groups : List Group)
    → unwrap_or counter 0 < 2 ^ 32
    → SpellCounter (values_of counter_kind (counter_entries counter ++ need_entries dependencies groups))
    (unwrap_or counter 0)
spells_counter None dependencies groups fits = (fits, inl (no_counter dependencies groups, refl))
spells_counter (Some counter) dependencies groups fits =
    let none = no_counter dependencies groups in
    (fits, inr (ap (λ (values : List (List ℕ)). counter_bytes counter ∷ values) none))

-- ---- the fields that entries have

fits_dependency_entries : (dependencies : List Dependency)
    → AllByRecursion FitsEntry (map dependency_entry dependencies)
fits_dependency_entries [] = tt
fits_dependency_entries (dependency ∷ dependencies) =
    (record { kind = omega arith; value = omega arith }, fits_dependency_entries dependencies)

fits_group_entries : (groups : List Group) → AllByRecursion HasAlternatives groups
    → AllByRecursion FitsEntry (map group_entry groups)
fits_group_entries [] each = tt
fits_group_entries (group ∷ groups) each =
    let long = length-alternatives_bytes group.alternatives.items in (
      record { kind = omega arith; value = omega (arith, long, each.0.most) },
      fits_group_entries groups each.1,
    )

fits_need_entries : (dependencies : List Dependency) (groups : List Group) → AllByRecursion HasAlternatives groups
    → AllByRecursion FitsEntry (need_entries dependencies groups)
fits_need_entries dependencies groups each =
    AllByRecursion-append FitsEntry (map dependency_entry dependencies) (map group_entry groups)
    (fits_dependency_entries dependencies) (fits_group_entries groups each)

fits_entries : (counter : Option ℕ) (dependencies : List Dependency) (groups : List Group)
    → AllByRecursion HasAlternatives groups → AllByRecursion FitsEntry (entries_for counter dependencies groups)
fits_entries None dependencies groups each = fits_need_entries dependencies groups each
fits_entries (Some counter) dependencies groups each =
    (record { kind = omega arith; value = omega arith }, fits_need_entries dependencies groups each)

-- The protected entries fit their fields, and so does their length.
pub fits_protected : (counter : Option ℕ) (dependencies : List Dependency) (groups : List Group)
    → length dependencies ≤ 16 → AreGroups groups
    → FitsArea (counter_entries counter ++ need_entries dependencies groups)
fits_protected counter dependencies groups few are = record {
  each = fits_entries counter dependencies groups are.each;
  whole = omega (
    arith,
    length-entries counter dependencies groups,
    counter_size-le counter,
    few,
    are.few,
    groups_size-le groups are.each,
  );
}
