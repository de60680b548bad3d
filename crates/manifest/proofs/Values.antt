-- The names of an object and the values of an array, as those of the map and the list that hold
-- them.
use Rattle.std.proofs.Common.{◌≡◌, ◌↔◌, ℕ, Bool, true, false, not, List, [], ◌∷◌, Option, Some, None, Result, Ok, Err, String, Vec, Global, Bor, map, string_bytes, refl, ap}
use Rattle.std.specs.Prelude.{IsOk, IfOk, option_map}
use Rattle.std.specs.Option.{option_eq}
use Rattle.std.specs.Map.{keys_of}
use Rattle.std.specs.Result.{result_ok}
use Rattle.std.proofs.lemmas.Bool.{false≢true}
use Rattle.serde_json.specs.View.{items_view, members_view, view}
use Rattle.serde_json.specs.declared.value.Value.{Value}
use Rattle.manifest.specs.Json.{names_of, values_of}

-- The names of an object are the keys of its map.
pub names_of-members_view : (entries : List (String Global × Value)) → names_of (members_view entries) ≡ map string_bytes (keys_of entries)
names_of-members_view [] = refl
names_of-members_view (entry ∷ entries) = ap (λ names. string_bytes entry.0 ∷ names) (names_of-members_view entries)

-- The values of an array are those of its list.
pub values_of-items_view : (values : List Value) → values_of (items_view values) ≡ map view values
values_of-items_view [] = refl
values_of-items_view (value ∷ values) = ap (λ rest. view value ∷ rest) (values_of-items_view values)

-- The same holds for an optional array.
pub array_values : (found : Option (Bor (Vec Value Global))) → option_map (λ values. map view values.now.items) found ≡ option_map values_of (option_map (λ values. items_view values.now.items) found)
array_values None = refl
array_values (Some values) = ap Some (rw (values_of-items_view values.now.items))

-- The parsed UUID is the one of the text.
pub found_uuid : {E : Type 0} (result : Result (List ℕ) E) (spelled : Option (List ℕ)) → (IsOk result ↔ ((uuid : List ℕ) × (spelled ≡ Some uuid))) → IfOk result (λ uuid. Some uuid ≡ spelled) → result_ok result ≡ spelled
found_uuid (Ok uuid) spelled ok is = is
found_uuid (Err error) None ok is = refl
found_uuid (Err error) (Some uuid) ok is = absurd (false≢true (ok.1 (uuid, refl)))

-- A found value that compares as equal to a value is that value.
pub same_found : {X : Type 0} (E : X → X → Bool) → ((x y : X) → E x y ≡ true → x ≡ y) → (found : Option X) (x : X)
    → false ≡ not (option_eq E found (Some x)) → found ≡ Some x
same_found E law None x differs = absurd (false≢true differs)
same_found E law (Some y) x differs = ap (λ z. Some z) (law y x (by (E y x) differs)) where
  by : (told : Bool) → false ≡ not told → told ≡ true
  by true is = refl
  by false is = absurd (false≢true is)
