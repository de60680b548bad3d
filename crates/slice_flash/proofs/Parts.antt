-- Lemmas about a part of a flash's bytes of which a range was replaced.
use Rattle.std.proofs.Common.{◌≡◌, ℕ, zero, suc, ◌+◌, ◌-◌, ◌<◌, ◌≤◌, ◌==◌, List, ◌++◌, length, take, drop, replicate, max, min, Bool, true, false, if◌then◌else◌}
use Rattle.std.proofs.Common.{get_or, slice_range, refl, sym, ◌∙◌, ap, arith, ⊎_elim}
use Rattle.std.proofs.lemmas.Bool.{cases_Bool, cases_lt, ne_eqb}
use Rattle.std.proofs.lemmas.List.{ext_get_or, get_or-drop, get_or-take, get_or_append_left, get_or-append_right, get_or-replicate, drop-drop, drop-replicate, length-replicate, length-take, take-replicate}
use Rattle.flash_model.specs.Torn.{replaced}
use Rattle.slice_flash.specs.Index.{IsStart}
use Rattle.slice_flash.specs.declared.index.Start.{Start}
use Rattle.slice_flash.specs.Overlay.{kind_at, length_at, place_at, position, done_at, replayed, AreEntries, IsEntryAt}
use Rattle.flash_model.proofs.Ranges.{length_range, range_at}
use Rattle.flash_model.proofs.TornBytes.{length-replaced}

-- A byte before a replaced range, one in it, and one after it.
pub before_replaced : (at : ℕ) (range bytes : List ℕ) (k : ℕ) → at + length range ≤ length bytes → k < at
    → get_or (replaced at range bytes) k 0 ≡ get_or bytes k 0
before_replaced at range bytes k inside low =
    let front : length (take at bytes) ≡ at = length-take at bytes ∙ omega arith in
    get_or_append_left (take at bytes) _ 0 k (omega arith) ∙ get_or-take at bytes k 0 low

pub in_replaced : (at : ℕ) (range bytes : List ℕ) (k : ℕ) → at + length range ≤ length bytes → at ≤ k → k < at + length range
    → get_or (replaced at range bytes) k 0 ≡ get_or range (k - at) 0
in_replaced at range bytes k inside low high =
    let front : length (take at bytes) ≡ at = length-take at bytes ∙ omega arith in
    get_or-append_right (take at bytes) _ at k 0 front low
    ∙ get_or_append_left range _ 0 (k - at) (omega arith)

pub after_replaced : (at : ℕ) (range bytes : List ℕ) (k : ℕ) → at + length range ≤ length bytes → at + length range ≤ k
    → get_or (replaced at range bytes) k 0 ≡ get_or bytes k 0
after_replaced at range bytes k inside high =
    let front : length (take at bytes) ≡ at = length-take at bytes ∙ omega arith in
    get_or-append_right (take at bytes) _ at k 0 front (omega arith)
    ∙ get_or-append_right range _ (length range) (k - at) 0 refl (omega arith)
    ∙ get_or-drop (at + length range) bytes (k - at - length range) 0
    ∙ ap (λ i. get_or bytes i 0) (omega arith)

-- A part that a replaced range doesn't meet.
pub part_apart : (place at from to : ℕ) (range bytes old : List ℕ) → place + length range ≤ length bytes
    → at + length old ≤ length bytes → old ≡ slice_range bytes at (at + length old)
    → from ≡ max place at → to ≡ min (place + length range) (at + length old) → to ≤ from
    → old ≡ slice_range (replaced place range bytes) at (at + length old)
part_apart place at from to range bytes old inside part is begins ends apart =
    let all : List ℕ = replaced place range bytes in
    let end : ℕ = at + length old in
    let size : length all ≡ length bytes = length-replaced place range bytes inside in
    is ∙ ext_get_or 0 (slice_range bytes at end) (slice_range all at end)
    (length_range bytes at end ∙ ap (λ n. min (end - at) (n - at)) (sym size) ∙ sym (length_range all at end))
    (λ i lt.
    let within : i < end - at = omega (arith, length_range bytes at end) in
    range_at bytes at end i within
    ∙ ⊎_elim
    (λ (low : at + i < place). sym (before_replaced place range bytes (at + i) inside low))
    (λ (high : place ≤ at + i). sym (after_replaced place range bytes (at + i) inside (omega (arith, apart, begins, ends, within, high))))
    (cases_lt (at + i) place)
    ∙ sym (range_at all at end i within))

-- A part that it meets.
pub part_met : (place at from to : ℕ) (range bytes old mid : List ℕ) → place + length range ≤ length bytes
    → at + length old ≤ length bytes → old ≡ slice_range bytes at (at + length old)
    → from ≡ max place at → to ≡ min (place + length range) (at + length old) → from < to
    → mid ≡ slice_range range (from - place) (to - place)
    → replaced (from - at) mid old ≡ slice_range (replaced place range bytes) at (at + length old)
part_met place at from to range bytes old mid inside part is begins ends some put =
    let all : List ℕ = replaced place range bytes in
    let end : ℕ = at + length old in
    let size : length all ≡ length bytes = length-replaced place range bytes inside in
    let long : length mid ≡ to - from = ap length put ∙ length_range range (from - place) (to - place) ∙ omega (arith, begins, ends, some) in
    let fits : from - at + length mid ≤ length old = omega (arith, long, begins, ends, some) in
    let whole : length (replaced (from - at) mid old) ≡ length old = length-replaced (from - at) mid old fits in
    let olds : (i : ℕ) → i < length old → get_or old i 0 ≡ get_or bytes (at + i) 0
    = λ i lt. ap (λ (l : List ℕ). get_or l i 0) is ∙ range_at bytes at end i (omega (arith, lt)) in
    ext_get_or 0 (replaced (from - at) mid old) (slice_range all at end)
    (whole ∙ sym (length_range all at end ∙ omega (arith, size, part)))
    (λ i lt.
    let within : i < length old = omega (arith, lt, whole) in
    ⊎_elim
    (λ (low : at + i < from).
    before_replaced (from - at) mid old i fits (omega (arith, low)) ∙ olds i within
    ∙ sym (before_replaced place range bytes (at + i) inside (omega (arith, low, begins))))
    (λ (high : from ≤ at + i). ⊎_elim
    (λ (under : at + i < to).
    in_replaced (from - at) mid old i fits (omega (arith, high)) (omega (arith, high, under, long, begins))
    ∙ ap (λ (l : List ℕ). get_or l (i - (from - at)) 0) put
    ∙ range_at range (from - place) (to - place) (i - (from - at)) (omega (arith, high, under, begins, ends, some))
    ∙ ap (λ k. get_or range k 0) (omega (arith, high, under, begins, ends, some))
    ∙ sym (in_replaced place range bytes (at + i) inside (omega (arith, high, begins)) (omega (arith, under, ends))))
    (λ (over : to ≤ at + i).
    after_replaced (from - at) mid old i fits (omega (arith, over, long, some, begins)) ∙ olds i within
    ∙ sym (after_replaced place range bytes (at + i) inside (omega (arith, over, ends, within))))
    (cases_lt (at + i) to))
    (cases_lt (at + i) from)
    ∙ sym (range_at all at end i (omega (arith, within))))

-- ---- the entries of a journal

pub length-done_at : (size : ℕ) (journal : List ℕ) (start : ℕ) → IsEntryAt size journal start
    → length (done_at journal start) ≡ length_at journal start
length-done_at size journal start is = ⊎_elim
    (λ (yes : (kind_at journal start == 0) ≡ true).
    let room = rw yes at is.whole in
    rw yes (length_range journal (start + 12) (start + 12 + length_at journal start) ∙ omega (arith, room)))
    (λ (no : (kind_at journal start == 0) ≡ false). rw no (length-replicate {A = ℕ} (length_at journal start) 255))
    (cases_Bool (kind_at journal start == 0))

-- The range of an entry lies in the flash.
pub entry_inside : (size : ℕ) (journal : List ℕ) (start : ℕ) (bytes : List ℕ) → IsEntryAt size journal start → length bytes ≡ size
    → place_at journal start + length (done_at journal start) ≤ length bytes
entry_inside size journal start bytes is long =
    omega (arith, ap (λ n. place_at journal start + n) (length-done_at size journal start is), is.inside, long)

pub length-replayed : (base journal : List ℕ) (entries k : ℕ) → AreEntries (length base) journal entries → k ≤ entries
    → length (replayed base journal k) ≡ length base
length-replayed base journal entries zero are below = refl
length-replayed base journal entries (suc k) are below =
    let start : ℕ = position journal k in
    let before = length-replayed base journal entries k are (omega (arith, below)) in
    length-replaced (place_at journal start) (done_at journal start) (replayed base journal k)
    (entry_inside (length base) journal start _ (are k (omega (arith, below))) before) ∙ before

-- What an entry leaves in its range, by its kind.
pub done_program : (journal : List ℕ) (start : ℕ) → kind_at journal start ≡ 0
    → done_at journal start ≡ slice_range journal (start + 12) (start + 12 + length_at journal start)
done_program journal start is = ap (λ kind. if kind == 0
    then slice_range journal (start + 12) (start + 12 + length_at journal start)
    else replicate (length_at journal start) 255) is

pub done_erase : (journal : List ℕ) (start : ℕ) → (kind_at journal start ≡ 0 → ⊥)
    → done_at journal start ≡ replicate (length_at journal start) 255
done_erase journal start is = ap (λ (b : Bool). if b
    then slice_range journal (start + 12) (start + 12 + length_at journal start)
    else replicate (length_at journal start) 255) (ne_eqb (kind_at journal start) 0 is)

-- Where the range of an entry ends that meets a part.
pub entry_end : (size at place n to long : ℕ) (journal : List ℕ) (start : ℕ) → IsEntryAt size journal start
    → place ≡ place_at journal start → n ≡ length_at journal start → to ≡ min (place + n) (at + long)
    → to ≡ min (place_at journal start + length (done_at journal start)) (at + long)
entry_end size at place n to long journal start is there wide ends =
    ends ∙ ap (λ p. min (p + n) (at + long)) there
    ∙ ap (λ m. min (place_at journal start + m) (at + long)) (wide ∙ sym (length-done_at size journal start is))

-- A part that the range of an entry meets, after the common bytes were borrowed.
pub part_back : (size at from to k : ℕ) (bytes old mid whole : List ℕ) (journal : List ℕ) (start : ℕ) → IsEntryAt size journal start
    → length bytes ≡ size → at + length old ≤ size → old ≡ slice_range bytes at (at + length old)
    → from ≡ max (place_at journal start) at
    → to ≡ min (place_at journal start + length (done_at journal start)) (at + length old) → from < to
    → k ≡ to - from → whole ≡ done_at journal start
    → mid ≡ slice_range whole (from - place_at journal start) (to - place_at journal start)
    → take (from - at) old ++ (mid ++ drop k (drop (from - at) old))
    ≡ slice_range (replaced (place_at journal start) (done_at journal start) bytes) at (at + length old)
part_back size at from to k bytes old mid whole journal start is long part copied begins ends some wide all put =
    let place : ℕ = place_at journal start in
    let range : List ℕ = done_at journal start in
    let here : mid ≡ slice_range range (from - place) (to - place) = put ∙ ap (λ (l : List ℕ). slice_range l (from - place) (to - place)) all in
    let size_is : length mid ≡ k =
    ap length here ∙ length_range range (from - place) (to - place) ∙ omega (arith, begins, ends, some, wide) in
    ap (λ (r : List ℕ). take (from - at) old ++ (mid ++ r))
    (drop-drop k (from - at) old ∙ ap (λ m. drop (from - at + m) old) (sym size_is))
    ∙ part_met place at from to range bytes old mid (entry_inside size journal start bytes is long) (omega (arith, part, long)) copied
    begins ends some here

pub range_of_blank : (n a b : ℕ) → b ≤ n → replicate {A = ℕ} (b - a) 255 ≡ slice_range (replicate {A = ℕ} n 255) a b
range_of_blank n a b inside =
    sym (ap (λ (l : List ℕ). take (b - a) l) (drop-replicate a n 255) ∙ take-replicate (b - a) (n - a) 255 (omega (arith, inside)))

-- ---- a range where a read begins

-- Each entry begins inside the journal, and so does what follows the last one.
pub position_inside : (size : ℕ) (journal : List ℕ) (entries k : ℕ) → AreEntries size journal entries → k ≤ entries
    → position journal k ≤ length journal
position_inside size journal entries zero are below = omega arith
position_inside size journal entries (suc k) are below = (are k (omega (arith, below))).whole

-- A range whose bytes are known one by one.
range_each : (bytes range : List ℕ) (at n : ℕ) → length range ≡ n → at + n ≤ length bytes
    → ((k : ℕ) → k < n → get_or range k 0 ≡ get_or bytes (at + k) 0) → range ≡ slice_range bytes at (at + n)
range_each bytes range at n long inside each =
    ext_get_or 0 range (slice_range bytes at (at + n))
    (long ∙ sym (length_range bytes at (at + n) ∙ omega (arith, inside)))
    (λ i lt. each i (omega (arith, lt, long)) ∙ sym (range_at bytes at (at + n) i (omega (arith, lt, long))))

pub begins_blank : (base journal : List ℕ) (entries at n : ℕ) (start : Start) → AreEntries (length base) journal entries
    → IsStart base journal entries at n start → at + n ≤ length base → start.is_blank ≡ true
    → replicate n 255 ≡ slice_range (replayed base journal start.entries) at (at + n)
begins_blank base journal entries at n start are is inside blank =
    let bytes : List ℕ = replayed base journal start.entries in
    range_each bytes (replicate n 255) at n (length-replicate {A = ℕ} n 255)
    (omega (arith, inside, length-replayed base journal entries start.entries are is.entries))
    (λ k lt. get_or-replicate n k 255 0 lt
    ∙ sym (is.bytes (at + k) (omega arith) (omega (arith, lt))
    ∙ ap (λ (b : Bool). if b then 255 else get_or base (at + k) 0) blank))

pub begins_plain : (base journal : List ℕ) (entries at n : ℕ) (start : Start) → AreEntries (length base) journal entries
    → IsStart base journal entries at n start → at + n ≤ length base → start.is_blank ≡ false
    → slice_range base at (at + n) ≡ slice_range (replayed base journal start.entries) at (at + n)
begins_plain base journal entries at n start are is inside blank =
    let bytes : List ℕ = replayed base journal start.entries in
    range_each bytes (slice_range base at (at + n)) at n (length_range base at (at + n) ∙ omega (arith, inside))
    (omega (arith, inside, length-replayed base journal entries start.entries are is.entries))
    (λ k lt. range_at base at (at + n) k (omega (arith, lt))
    ∙ sym (is.bytes (at + k) (omega arith) (omega (arith, lt))
    ∙ ap (λ (b : Bool). if b then 255 else get_or base (at + k) 0) blank))
