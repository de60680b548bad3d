-- What the table of records implies of a state, and what implies the table.
use Rattle.std.proofs.Common.{◌≡◌, ℕ, zero, suc, ◌+◌, ◌-◌, ◌/◌, ◌^◌, ◌<◌, ◌≤◌, ◌==◌, ◌&&◌, Bool, true, false, List, [], ◌∷◌, nat_lt, get_or, drop, slice_index, arith, refl, sym, ◌∙◌, ap}
use Rattle.std.proofs.lemmas.Bool.Decides.{Decides-eqb, Decides-ltb}
use Rattle.std.proofs.lemmas.List.{get_or-drop}
use Rattle.std.proofs.lemmas.Nat.{pow_pos}
use Rattle.std.proofs.Math.Nat.{div-eq_of_lt, div-lt_iff_lt-mul}
use Rattle.std.specs.List.{list_all}
use Rattle.sector_map.specs.declared.layout.SectorMap.{SectorMap}
use Rattle.sector_map.specs.Map.{IsWithin}
use Rattle.common.proofs.Masks.{below_shift, shift_below}
use Rattle.set_log.specs.declared.state.State.{State}
use Rattle.set_log.specs.Record.{fits, kind_fits}

both : (a b : Bool) → (a && b) ≡ true → (a ≡ true) × (b ≡ true)
both true b is = (refl, is)
both false b is = let wrong : false ≡ true = is in absurd (cc wrong)

zeros_each : (xs : List ℕ) (i : ℕ) → list_all (λ x. x == 0) xs ≡ true → get_or xs i 0 ≡ 0
zeros_each [] zero all = refl
zeros_each [] (suc i) all = refl
zeros_each (x ∷ xs) zero all = (Decides-eqb x 0).0 (both (x == 0) (list_all (λ x. x == 0) xs) all).0
zeros_each (x ∷ xs) (suc i) all = zeros_each xs i (both (x == 0) (list_all (λ x. x == 0) xs) all).1

zeros_of : (xs : List ℕ) → ((i : ℕ) → get_or xs i 0 ≡ 0) → list_all (λ x. x == 0) xs ≡ true
zeros_of [] each = refl
zeros_of (x ∷ xs) each = rw ((Decides-eqb x 0).1 (each 0)) (zeros_of xs (λ i. each (suc i)))

-- The set has only images of the map.
pub fits_within : (map : SectorMap) (s : State) → fits map.images s ≡ true → IsWithin map s.mask
fits_within map s fit i member =
    below_shift s.mask map.images i (div-eq_of_lt ((Decides-ltb s.mask (2 ^ map.images)).0 (both _ _ fit).0)) member

-- Set, permanence and boots left match the kind.
pub fits_kind : (images : ℕ) (s : State) → fits images s ≡ true
    → kind_fits s.kind s.mask s.permanent s.left ≡ true
fits_kind images s fit = (both _ _ (both _ _ fit).1).0

-- The floors past the last image are 0.
pub fits_floors : (images : ℕ) (s : State) → fits images s ≡ true → (i : ℕ) → images ≤ i
    → slice_index s.floors i ≡ 0
fits_floors images s fit i le =
    let place : images + (i - images) ≡ i = omega arith in
    ap (λ k. get_or s.floors k 0) (sym place) ∙ sym (get_or-drop images s.floors (i - images) 0)
    ∙ zeros_each (drop images s.floors) (i - images) (both _ _ (both _ _ fit).1).1

small_of_none : (x k : ℕ) → 0 < k → x / k ≡ 0 → x < k
small_of_none x k some none =
    omega (arith, (div-lt_iff_lt-mul {k = k} {x = x} {y = 1} some).0 (omega (arith, none)))

-- These three conditions make a state keep the table.
pub fits_of : (map : SectorMap) (s : State) → s.mask < 2 ^ 8 → IsWithin map s.mask
    → kind_fits s.kind s.mask s.permanent s.left ≡ true
    → ((i : ℕ) → map.images ≤ i → slice_index s.floors i ≡ 0) → fits map.images s ≡ true
fits_of map s small within kind floors =
    let none : s.mask / 2 ^ map.images ≡ 0 = shift_below s.mask map.images small within in
    let mask : nat_lt s.mask (2 ^ map.images) ≡ true = (Decides-ltb s.mask (2 ^ map.images)).1
    (small_of_none s.mask (2 ^ map.images) (pow_pos map.images) none) in
    let zeros : list_all (λ floor. floor == 0) (drop map.images s.floors) ≡ true =
    zeros_of (drop map.images s.floors)
    (λ i. get_or-drop map.images s.floors i 0 ∙ floors (map.images + i) (omega arith)) in
    rw (mask, kind, zeros) refl
