-- No JSON that is written has a number that isn't whole, so its text is exact. Lists of values that
-- are made one by one.
use Rattle.std.proofs.Common.{◌≡◌, ℕ, ◌+◌, ◌<◌, List, [], ◌∷◌, ◌++◌, Bool, true, false, Ordering, Less, Equal, Greater, ap, append_assoc, arith, get_or, length, map, nat_cmp, refl, sym, take, ◌∙◌, add-zero, append-nil, length-take-le, true≢false, zero-add}
use Rattle.std.proofs.Math.Bool.{beq}
use Rattle.std.proofs.lemmas.List.{map-append, take_more}
use Rattle.std.specs.Cmp.Lexicographic.{slice_cmp}
use Rattle.std.specs.List.{flat_map, range_with_len}
use Rattle.std.specs.Ordering.{match_ordering}
use Rattle.std.specs.Prelude.{◌||◌, if◌then◌else◌, not}
use Rattle.serde_json.specs.Data.{Data, Members, array, member, no_members, put, string}
use Rattle.serde_json.specs.View.{items_of, view}
use Rattle.serde_json.specs.declared.value.Value.{Value}
use Rattle.serde_json.specs.Written.{has_float, items_have_float, members_have_float}
use Rattle.reports.specs.declared.report.ReportedImage.{ReportedImage}
use Rattle.common.specs.Masks.{is_member}
use Rattle.device_texts.proofs.TextLaws.{flat_map-range_more}
use Rattle.device_texts.specs.Json.{number_json, reported_images, reported_json, versioned_json, with_member, with_some}
use Rattle.device_texts.specs.Json as json

-- Values that are made one by one. A turn makes one value, or none.
pub one-made : (values : List Value) (value : Value) (d : Data) (before one after : List Data) → after ≡ before ++ one
    → one ≡ d ∷ [] → map view values ≡ before → view value ≡ d → map view (values ++ value ∷ []) ≡ after
one-made values value d before one after more is so_far seen =
    map-append view values (value ∷ []) ∙ rw (so_far, seen, more, is)

pub none-made : (values : List Value) (before one after : List Data) → after ≡ before ++ one → one ≡ []
    → map view values ≡ before → map view values ≡ after
none-made values before one after more is so_far = rw (so_far, more, is) (sym (append-nil before))

-- The numbers of a set with one more image.
pub set-more : (mask n : ℕ)
    → map number_json (flat_map (json.member mask) (range_with_len 0 (n + 1)))
    ≡ map number_json (flat_map (json.member mask) (range_with_len 0 n)) ++ map number_json (json.member mask n)
set-more mask n =
    ap (map number_json) (flat_map-range_more (json.member mask) n)
    ∙ map-append number_json (flat_map (json.member mask) (range_with_len 0 n)) (json.member mask n)

-- What an image adds to the numbers.
pub set-in : (mask n : ℕ) → is_member mask n ≡ true → map number_json (json.member mask n) ≡ number_json n ∷ []
set-in mask n is = rw is

pub set-out : (mask n : ℕ) → is_member mask n ≡ false → map number_json (json.member mask n) ≡ []
set-out mask n is = rw is

-- One more image at the end.
reported-last : (is_taken : Bool) (n : ℕ) (xs : List ReportedImage) (x : ReportedImage)
    → reported_images is_taken n (xs ++ x ∷ [])
    ≡ reported_images is_taken n xs ++ reported_json is_taken (n + length xs) x
reported-last is_taken n [] x = simp (append-nil, add-zero)
reported-last is_taken n (y ∷ ys) x =
    let same : (n + 1) + length ys ≡ n + length (y ∷ ys) = omega arith in
    ap (λ r. reported_json is_taken n y ++ r) (reported-last is_taken (n + 1) ys x)
    ∙ rw same (sym (append_assoc (reported_json is_taken n y) _ _))

-- The images so far and the next.
pub reported-more : (is_taken : Bool) (xs : List ReportedImage) (i : ℕ) (d : ReportedImage) → i < length xs
    → reported_images is_taken 0 (take (i + 1) xs)
    ≡ reported_images is_taken 0 (take i xs) ++ reported_json is_taken i (get_or xs i d)
reported-more is_taken xs i d below =
    let count : length (take i xs) ≡ i = length-take-le i xs (omega arith) in
    let at : 0 + length (take i xs) ≡ i = zero-add (length (take i xs)) ∙ count in
    ap (reported_images is_taken 0) (take_more xs i d below)
    ∙ reported-last is_taken 0 (take i xs) (get_or xs i d)
    ∙ ap (λ n. reported_images is_taken 0 (take i xs) ++ reported_json is_taken n (get_or xs i d)) at

-- An image is listed if whether its request is taken is what is asked.
wanted : (is_taken one : Bool) → (if is_taken then one else not one) ≡ beq is_taken one
wanted true true = refl
wanted true false = refl
wanted false true = refl
wanted false false = refl

pub reported-in : (is_taken : Bool) (n : ℕ) (image : ReportedImage) → beq is_taken image.is_taken ≡ true
    → reported_json is_taken n image ≡ versioned_json n image.version ∷ []
reported-in is_taken n image is = rw (wanted is_taken image.is_taken, is)

pub reported-out : (is_taken : Bool) (n : ℕ) (image : ReportedImage) → beq is_taken image.is_taken ≡ false
    → reported_json is_taken n image ≡ []
reported-out is_taken n image is = rw (wanted is_taken image.is_taken, is)

-- A disjunction is false if both sides are, and only then.
or_false : (a b : Bool) → a ≡ false → b ≡ false → (a || b) ≡ false
or_false a b first second = rw (first, second)

or_left : (a b : Bool) → (a || b) ≡ false → a ≡ false
or_left true b none = absurd (true≢false none)
or_left false b none = refl

or_right : (a b : Bool) → (a || b) ≡ false → b ≡ false
or_right true b none = absurd (true≢false none)
or_right false b none = none

-- A value, members, and values in a list, without a number that isn't whole.
abbrev pub IsWhole : Data → Type 0
IsWhole value = has_float value ≡ false

pub record AreWhole (members : Members) : Type 0 where
  pub none : members_have_float members ≡ false

pub record AreAllWhole (values : List Data) : Type 0 where
  pub none : items_have_float (items_of values) ≡ false

-- A member that is put in place stands before a member, instead of it, or after it.
put-at : (order : Ordering) (k l : List ℕ) (d e : Data) (ms : Members) → IsWhole d
    → members_have_float (member l e ms) ≡ false → members_have_float (put k d ms) ≡ false
    → members_have_float (match_ordering order (member k d (member l e ms)) (member l d ms) (member l e (put k d ms)))
    ≡ false
put-at Less k l d e ms whole all later = or_false _ _ whole all
put-at Equal k l d e ms whole all later = or_false _ _ whole (or_right (has_float e) _ all)
put-at Greater k l d e ms whole all later = or_false _ _ (or_left (has_float e) _ all) later

put-whole : (k : List ℕ) (d : Data) (ms : Members) → IsWhole d → members_have_float ms ≡ false
    → members_have_float (put k d ms) ≡ false
put-whole k d no_members whole all = or_false _ _ whole refl
put-whole k d (member l e ms) whole all =
    put-at (slice_cmp nat_cmp k l) k l d e ms whole all
    (put-whole k d ms whole (or_right (has_float e) _ all))

-- No member, and one more.
pub nothing-whole : AreWhole no_members
nothing-whole = record { none = refl }

pub member-whole : (k : List ℕ) (d : Data) (ms : Members) → IsWhole d → AreWhole ms → AreWhole (with_member k d ms)
unfolding with_member
member-whole k d ms whole all = record { none = put-whole k d ms whole all.none }

pub with_some-whole : (k : List ℕ) (ds : List Data) (ms : Members) → AreAllWhole ds → AreWhole ms
    → AreWhole (with_some k ds ms)
with_some-whole k [] ms wholes all = all
with_some-whole k (d ∷ ds) ms wholes all = member-whole k (array (items_of (d ∷ ds))) ms wholes.none all

-- No value, one more value, and more values.
pub none-whole : AreAllWhole []
none-whole = record { none = refl }

pub value-whole : (d : Data) (ds : List Data) → IsWhole d → AreAllWhole ds → AreAllWhole (d ∷ ds)
value-whole d ds first others = record { none = or_false _ _ first others.none }

pub append-whole : (ds es : List Data) → AreAllWhole ds → AreAllWhole es → AreAllWhole (ds ++ es)
append-whole [] es first second = second
append-whole (d ∷ ds) es first second =
    value-whole d (ds ++ es) (or_left (has_float d) _ first.none)
    (append-whole ds es (record { none = or_right (has_float d) _ first.none }) second)

pub map-whole : {A : Type 0} (f : A → Data) (xs : List A) → ((x : A) → IsWhole (f x)) → AreAllWhole (map f xs)
map-whole f [] each = none-whole
map-whole f (x ∷ xs) each = value-whole (f x) (map f xs) (each x) (map-whole f xs each)

pub flat_map-whole : {A : Type 0} (f : A → List Data) (xs : List A) → ((x : A) → AreAllWhole (f x))
    → AreAllWhole (flat_map f xs)
flat_map-whole f [] each = none-whole
flat_map-whole f (x ∷ xs) each = append-whole (f x) (flat_map f xs) (each x) (flat_map-whole f xs each)

-- The texts of notes.
pub notes-mapped : {A : Type 0} (text : A → List ℕ) (notes : List A)
    → map (λ note. string (text note)) notes ≡ map string (map text notes)
notes-mapped text [] = refl
notes-mapped text (note ∷ notes) = ap (λ rest. string (text note) ∷ rest) (notes-mapped text notes)
