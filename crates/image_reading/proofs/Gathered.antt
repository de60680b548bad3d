-- The items that a walk over the entries of one type keeps.
use Rattle.std.proofs.Common.{◌≡◌, ℕ, ◌+◌, ◌<◌, ◌≤◌, Bool, true, false, List, [], ◌∷◌, ◌++◌, length, map, refl, sym, ap, subst, ◌∙◌, arith}
use Rattle.std.specs.List.{AllByRecursion, Any}
use Rattle.std.proofs.lemmas.Bool.{le-ltb, lt-ltb, ltb-true, ltb-false, true≢false}
use Rattle.std.proofs.lemmas.List.{append-nil, append_assoc, length-map, length-take, length_push, map-append, take_all, take-append-le}
use Rattle.common.proofs.Items.{AllByRecursion-push, Any-between}
use Rattle.image_reading.specs.declared.met.ItemFaults.{ItemFaults}
use Rattle.image_reading.specs.Area.{Entry, values_of}
use Rattle.image_reading.specs.Gathered.{AreKept, HasMet, Spelling}
use Rattle.image_reading.proofs.FieldLaws.{values_of-same}

-- If the next entry has the type, its value is the next one.
pub HasMet-next : {X : Type 0} (spelling : Spelling X) (most : ℕ) (values : List (List ℕ)) (kind : ℕ) (entry : Entry)
    (left : List Entry) (items : List X) (faults : ItemFaults) → entry.kind ≡ kind
    → HasMet spelling most values (values_of kind (entry ∷ left)) items faults
    → HasMet spelling most values (entry.value ∷ values_of kind left) items faults
HasMet-next spelling most values kind entry left items faults same before =
    subst (λ (rest : List (List ℕ)). HasMet spelling most values rest items faults)
    (values_of-same kind entry left same) before

-- One more value encodes an item.
spelled_more : {X : Type 0} (bytes : X → List ℕ) (values left : List (List ℕ)) (value : List ℕ) (found : List X)
    (item : X) → values ≡ map bytes found ++ value ∷ left → value ≡ bytes item
    → values ≡ map bytes (found ++ item ∷ []) ++ left
spelled_more bytes values left value found item so_far is =
    so_far ∙ ap (λ (v : List ℕ). map bytes found ++ v ∷ left) is
    ∙ sym (append_assoc (map bytes found) (bytes item ∷ []) left)
    ∙ ap (λ (t : List (List ℕ)). t ++ left) (sym (map-append bytes found (item ∷ [])))

-- No value was read yet.
pub AreKept-none : {X : Type 0} (spelling : Spelling X) (most : ℕ) (values : List (List ℕ))
    → AreKept spelling most values values [] false
AreKept-none {X = X} spelling most values = record {
  found = [];
  fit = tt;
  spelled = refl;
  first = sym (take_all {A = X} most [] (omega arith));
  over = sym (le-ltb most 0 (omega arith));
}

-- No value was read yet, and there is no item and no fault.
pub HasMet-none : {X : Type 0} (spelling : Spelling X) (most : ℕ) (items : List X) (faults : ItemFaults)
    → items ≡ [] → faults.bad ≡ false → faults.too_many ≡ false
    → (values : List (List ℕ)) → HasMet spelling most values values items faults
HasMet-none spelling most items faults none good few = λ values. record {
  bad = λ bad. absurd (true≢false (sym bad ∙ good));
  kept = λ _. rw (none, few) (AreKept-none spelling most values);
}

-- No more items are kept than the limit.
pub few_kept : {X : Type 0} (spelling : Spelling X) (most : ℕ) (values left : List (List ℕ)) (items : List X)
    (too_many : Bool) → AreKept spelling most values left items too_many → length items ≤ most
few_kept spelling most values left items too_many kept =
    omega (arith, ap length kept.first, length-take most kept.found)

-- One more item is kept, if the limit isn't reached.
pub AreKept-push : {X : Type 0} (spelling : Spelling X) (most : ℕ) (values left : List (List ℕ)) (value : List ℕ)
    (items : List X) (too_many : Bool) (item : X) → AreKept spelling most values (value ∷ left) items too_many
    → spelling.Fits item → value ≡ spelling.bytes item → length items < most
    → AreKept spelling most values left (items ++ item ∷ []) too_many
AreKept-push {X = X} spelling most values left value items too_many item kept fits is room =
    let few : length kept.found < most = omega (arith, room, ap length kept.first, length-take most kept.found) in
    let all : items ≡ kept.found = kept.first ∙ take_all most kept.found (omega (arith, few)) in
    let one : length (kept.found ++ item ∷ []) ≡ length kept.found + 1 = length_push kept.found item in
    record {
      found = kept.found ++ item ∷ [];
      fit = AllByRecursion-push spelling.Fits kept.found item kept.fit fits;
      spelled = spelled_more spelling.bytes values left value kept.found item kept.spelled is;
      first = ap (λ (t : List X). t ++ item ∷ []) all
          ∙ sym (take_all most (kept.found ++ item ∷ []) (omega (arith, few, one)));
      over = kept.over ∙ le-ltb most (length kept.found) (omega (arith, few))
          ∙ sym (le-ltb most (length (kept.found ++ item ∷ [])) (omega (arith, few, one)));
    }

-- One more item isn't kept, if the limit is reached.
pub AreKept-over : {X : Type 0} (spelling : Spelling X) (most : ℕ) (values left : List (List ℕ)) (value : List ℕ)
    (items : List X) (too_many : Bool) (item : X) → AreKept spelling most values (value ∷ left) items too_many
    → spelling.Fits item → value ≡ spelling.bytes item → most ≤ length items
    → AreKept spelling most values left items true
AreKept-over spelling most values left value items too_many item kept fits is full =
    let many : most ≤ length kept.found = omega (arith, full, ap length kept.first, length-take most kept.found) in
    let one : length (kept.found ++ item ∷ []) ≡ length kept.found + 1 = length_push kept.found item in
    record {
      found = kept.found ++ item ∷ [];
      fit = AllByRecursion-push spelling.Fits kept.found item kept.fit fits;
      spelled = spelled_more spelling.bytes values left value kept.found item kept.spelled is;
      first = kept.first ∙ sym (take-append-le most kept.found (item ∷ []) many);
      over = sym (lt-ltb most (length (kept.found ++ item ∷ [])) (omega (arith, many, one)));
    }

-- A value doesn't have the form of an item.
pub AreKept-bad : {X : Type 0} (spelling : Spelling X) (most : ℕ) (values left : List (List ℕ)) (value : List ℕ)
    (items : List X) (too_many : Bool) → AreKept spelling most values (value ∷ left) items too_many
    → (spelling.IsForm value → ⊥) → Any (λ v. spelling.IsForm v → ⊥) values
AreKept-bad spelling most values left value items too_many kept bad =
    let Bad = λ (v : List ℕ). spelling.IsForm v → ⊥ in
    subst (Any Bad) (sym kept.spelled) (Any-between Bad (map spelling.bytes kept.found) left value bad)

-- All values encode items that fit.
pub record AreSpelled {X : Type 0} (spelling : Spelling X) (values : List (List ℕ)) (items : List X) : Type 0 where
  pub fit : AllByRecursion spelling.Fits items
  pub spelled : values ≡ map spelling.bytes items

pub count_spelled : {X : Type 0} (spelling : Spelling X) (values : List (List ℕ)) (items : List X)
    → AreSpelled spelling values items → length values ≡ length items
count_spelled spelling values items all = ap length all.spelled ∙ length-map items spelling.bytes

-- At the end all values encode the items that were found.
pub found_at_end : {X : Type 0} (spelling : Spelling X) (most : ℕ) (values : List (List ℕ)) (items : List X)
    (too_many : Bool) (kept : AreKept spelling most values [] items too_many) → AreSpelled spelling values kept.found
found_at_end spelling most values items too_many kept =
    record { fit = kept.fit; spelled = kept.spelled ∙ append-nil (map spelling.bytes kept.found) }

-- If it was recorded that there are too many, there are.
pub many_at_end : {X : Type 0} (spelling : Spelling X) (most : ℕ) (values : List (List ℕ)) (items : List X)
    (too_many : Bool) → AreKept spelling most values [] items too_many → too_many ≡ true → most < length values
many_at_end spelling most values items too_many kept over =
    let many : most < length kept.found = ltb-true most (length kept.found) (sym kept.over ∙ over) in
    let count = count_spelled spelling values kept.found (found_at_end spelling most values items too_many kept) in
    omega (arith, many, count)

-- If it wasn't recorded that there are too many, there aren't.
pub few_at_end : {X : Type 0} (spelling : Spelling X) (most : ℕ) (values : List (List ℕ)) (items : List X)
    (too_many : Bool) → AreKept spelling most values [] items too_many → too_many ≡ false → length values ≤ most
few_at_end spelling most values items too_many kept within =
    let few = ltb-false most (length kept.found) (sym kept.over ∙ within) in
    let count = count_spelled spelling values kept.found (found_at_end spelling most values items too_many kept) in
    omega (arith, few, count)

-- If it wasn't recorded that there are too many, all items were kept.
pub kept_at_end : {X : Type 0} (spelling : Spelling X) (most : ℕ) (values : List (List ℕ)) (items : List X)
    (too_many : Bool) → AreKept spelling most values [] items too_many → too_many ≡ false
    → AreSpelled spelling values items
kept_at_end spelling most values items too_many kept within =
    let few = ltb-false most (length kept.found) (sym kept.over ∙ within) in
    let all : items ≡ kept.found = kept.first ∙ take_all most kept.found few in
    subst (AreSpelled spelling values) (sym all) (found_at_end spelling most values items too_many kept)
