-- Lemmas about a journal to which an entry was appended: the entries before it stay, and it is the
-- last one.
use Rattle.std.proofs.Common.{◌≡◌, ℕ, zero, suc, ◌+◌, ◌-◌, ◌^◌, ◌<◌, ◌≤◌, ◌==◌, List, ◌++◌, length, take, drop, replicate, Bool, true, false, if◌then◌else◌}
use Rattle.std.proofs.Common.{Ok, slice_index, slice_range, refl, sym, ◌∙◌, ap, subst, arith, ⊎_elim}
use Rattle.std.specs.Int.{from_le_bytes, w32}
use Rattle.std.proofs.lemmas.Bool.{cases_Bool, cases_lt, false≢true}
use Rattle.std.proofs.lemmas.List.{drop_at, drop-drop, drop-take, length-append, length-replicate, length-take, take_at, take-take}
use Rattle.std.proofs.lemmas.Nat.{from_le_bytes-to_le_bytes_4}
use Rattle.flash_model.specs.Torn.{replaced}
use Rattle.slice_flash.specs.Index.{IsOneMore}
use Rattle.slice_flash.specs.Recording.{Recording, Records, recorded}
use Rattle.slice_flash.specs.Overlay.{number_at, kind_at, length_at, place_at, position, done_at, replayed, room_at, AreEntries, IsEntryAt}
use Rattle.slice_flash.proofs.Writes.{bytes_back}
use Rattle.slice_flash.proofs.Recorded.{at_is, length_is, lies_inside}
use Rattle.slice_flash.specs.Asked.{step_of}
use Rattle.slice_flash.specs.declared.steps.Asked.{Asked}
use Rattle.slice_flash.specs.Steps.{IsAccepted, Step, Programmed, Erased, at_of, header, range_of, spelled}

-- ---- an entry, by whether it is a program

done_if : (journal : List ℕ) (start : ℕ) (b : Bool) → (kind_at journal start == 0) ≡ b
    → done_at journal start ≡ (if b then slice_range journal (start + 12) (start + 12 + length_at journal start)
    else replicate {A = ℕ} (length_at journal start) 255)
done_if journal start b is = ap (λ (c : Bool). if c
    then slice_range journal (start + 12) (start + 12 + length_at journal start)
    else replicate {A = ℕ} (length_at journal start) 255) is

room_if : (journal : List ℕ) (start : ℕ) (b : Bool) → (kind_at journal start == 0) ≡ b
    → room_at journal start ≡ (if b then 12 + length_at journal start else 12)
room_if journal start b is = ap (λ (c : Bool). if c then 12 + length_at journal start else 12) is

room_least : (journal : List ℕ) (start : ℕ) → 12 ≤ room_at journal start
room_least journal start = ⊎_elim
    (λ (yes : (kind_at journal start == 0) ≡ true). omega (arith, room_if journal start true yes))
    (λ (no : (kind_at journal start == 0) ≡ false). omega (arith, room_if journal start false no))
    (cases_Bool (kind_at journal start == 0))

-- ---- two journals that begin with the same bytes

slice_same : (used a b : ℕ) (one two : List ℕ) → take used one ≡ take used two → a ≤ b → b ≤ used
    → slice_range one a b ≡ slice_range two a b
slice_same used a b one two same low high =
    let front : (l : List ℕ) → slice_range l a b ≡ drop a (take (a + (b - a)) (take used l)) = λ l.
    sym (drop-take a (b - a) l) ∙ ap (λ (m : List ℕ). drop a m) (sym (take-take (a + (b - a)) used l (omega (arith, low, high)))) in
    front one ∙ ap (λ (l : List ℕ). drop a (take (a + (b - a)) l)) same ∙ sym (front two)

number_same : (used start : ℕ) (one two : List ℕ) → take used one ≡ take used two → start + 4 ≤ used
    → number_at one start ≡ number_at two start
number_same used start one two same high =
    ap (λ (l : List ℕ). from_le_bytes w32 l) (slice_same used start (start + 4) one two same (omega arith) high)

room_same : (used start : ℕ) (one two : List ℕ) → take used one ≡ take used two → start + 12 ≤ used
    → room_at one start ≡ room_at two start
room_same used start one two same high =
    ap (λ k. if k == 0 then 12 + length_at one start else 12) (number_same used start one two same (omega (arith, high)))
    ∙ ap (λ n. if kind_at two start == 0 then 12 + n else 12) (number_same used (start + 8) one two same (omega (arith, high)))

done_same : (used start : ℕ) (one two : List ℕ) → take used one ≡ take used two → start + room_at one start ≤ used
    → done_at one start ≡ done_at two start
done_same used start one two same high =
    let least = room_least one start in
    let kind = number_same used start one two same (omega (arith, high, least)) in
    let wide = number_same used (start + 8) one two same (omega (arith, high, least)) in
    ⊎_elim
    (λ (yes : (kind_at one start == 0) ≡ true).
    let room = room_if one start true yes in
    done_if one start true yes
    ∙ slice_same used (start + 12) (start + 12 + length_at one start) one two same (omega arith) (omega (arith, high, room))
    ∙ ap (λ n. slice_range two (start + 12) (start + 12 + n)) wide
    ∙ sym (done_if two start true (ap (λ k. k == 0) (sym kind) ∙ yes)))
    (λ (no : (kind_at one start == 0) ≡ false).
    done_if one start false no ∙ ap (λ n. replicate {A = ℕ} n 255) wide
    ∙ sym (done_if two start false (ap (λ k. k == 0) (sym kind) ∙ no)))
    (cases_Bool (kind_at one start == 0))

position_same : (used k : ℕ) (one two : List ℕ) → take used one ≡ take used two → position one k ≤ used
    → position one k ≡ position two k
position_same used zero one two same high = refl
position_same used (suc k) one two same high =
    let least = room_least one (position one k) in
    let before = position_same used k one two same (omega (arith, high)) in
    ap (λ r. position one k + r) (room_same used (position one k) one two same (omega (arith, high, least)))
    ∙ ap (λ s. s + room_at two s) before

replayed_same : (base : List ℕ) (used k : ℕ) (one two : List ℕ) → take used one ≡ take used two → position one k ≤ used
    → replayed base one k ≡ replayed base two k
replayed_same base used zero one two same high = refl
replayed_same base used (suc k) one two same high =
    let start : ℕ = position one k in
    let least = room_least one start in
    let there = position_same used k one two same (omega (arith, high)) in
    ap (λ p. replaced p (done_at one start) (replayed base one k)) (number_same used (start + 4) one two same (omega (arith, high, least)))
    ∙ ap (λ (r : List ℕ). replaced (place_at two start) r (replayed base one k)) (done_same used start one two same (omega (arith, high)))
    ∙ ap (λ (b : List ℕ). replaced (place_at two start) (done_at two start) b) (replayed_same base used k one two same (omega (arith, high)))
    ∙ ap (λ s. replaced (place_at two s) (done_at two s) (replayed base two k)) there

position_at_most : (journal : List ℕ) (k n : ℕ) → k ≤ n → position journal k ≤ position journal n
position_at_most journal k zero below = rw (let none : k ≡ 0 = omega (arith, below) in none) (omega arith)
position_at_most journal k (suc n) below = ⊎_elim
    (λ (lower : k < suc n). omega (arith, position_at_most journal k n (omega (arith, lower))))
    (λ (same : suc n ≤ k).
    let it : k ≡ suc n = omega (arith, same, below) in omega (arith, ap (λ m. position journal m) it))
    (cases_lt k (suc n))

-- ---- the entry of a write, behind other bytes

slice_behind : (used i m : ℕ) (front back : List ℕ) → length front ≡ used
    → slice_range (front ++ back) (used + i) (used + i + m) ≡ take m (drop i back)
slice_behind used i m front back long =
    ap (λ n. take n (drop (used + i) (front ++ back))) (omega arith)
    ∙ ap (λ (l : List ℕ). take m l) (sym (drop-drop i used (front ++ back)) ∙ ap (λ (l : List ℕ). drop i l) (drop_at front back used long))

kind_behind : (used kind at n : ℕ) (front back : List ℕ) → length front ≡ used → kind < 2 ^ 32
    → kind_at (front ++ (header kind at n ++ back)) used ≡ kind
kind_behind used kind at n front back long fits =
    let all : List ℕ = front ++ (header kind at n ++ back) in
    ap (λ s. number_at all s) (omega arith)
    ∙ ap (λ (l : List ℕ). from_le_bytes w32 l) (slice_behind used 0 4 front (header kind at n ++ back) long)
    ∙ from_le_bytes-to_le_bytes_4 kind fits

place_behind : (used kind at n : ℕ) (front back : List ℕ) → length front ≡ used → at < 2 ^ 32
    → place_at (front ++ (header kind at n ++ back)) used ≡ at
place_behind used kind at n front back long fits =
    ap (λ (l : List ℕ). from_le_bytes w32 l) (slice_behind used 4 4 front (header kind at n ++ back) long)
    ∙ from_le_bytes-to_le_bytes_4 at fits

length_behind : (used kind at n : ℕ) (front back : List ℕ) → length front ≡ used → n < 2 ^ 32
    → length_at (front ++ (header kind at n ++ back)) used ≡ n
length_behind used kind at n front back long fits =
    ap (λ (l : List ℕ). from_le_bytes w32 l) (slice_behind used 8 4 front (header kind at n ++ back) long)
    ∙ from_le_bytes-to_le_bytes_4 n fits

-- The last entry of a journal is that of a step.
record IsLast (journal : List ℕ) (used : ℕ) (step : Step) : Type 0 where
  place : place_at journal used ≡ at_of step
  wide : length_at journal used ≡ length (range_of step)
  done : done_at journal used ≡ range_of step
  room : room_at journal used ≡ length (spelled step)

entry_behind : (used : ℕ) (step : Step) (front rest : List ℕ) → length front ≡ used → at_of step < 2 ^ 32
    → length (range_of step) < 2 ^ 32 → IsLast (front ++ (spelled step ++ rest)) used step
entry_behind used (Programmed at bytes) front rest long low short =
    let n : ℕ = length bytes in
    let all : List ℕ = front ++ (header 0 at n ++ (bytes ++ rest)) in
    let kind = kind_behind used 0 at n front (bytes ++ rest) long (omega arith) in
    let wide : length_at all used ≡ n = length_behind used 0 at n front (bytes ++ rest) long short in
    let program : (kind_at all used == 0) ≡ true = ap (λ k. k == 0) kind in
    record {
      place = place_behind used 0 at n front (bytes ++ rest) long low;
      wide = wide;
      done = done_if all used true program ∙ ap (λ m. slice_range all (used + 12) (used + 12 + m)) wide
          ∙ slice_behind used 12 n front (header 0 at n ++ (bytes ++ rest)) long ∙ take_at bytes rest n refl;
      room = room_if all used true program ∙ ap (λ m. 12 + m) wide ∙ omega arith;
    }
entry_behind used (Erased at n) front rest long low short =
    let all : List ℕ = front ++ (header 1 at n ++ rest) in
    let size = length-replicate {A = ℕ} n 255 in
    let kind = kind_behind used 1 at n front rest long (omega arith) in
    let wide : length_at all used ≡ n = length_behind used 1 at n front rest long (omega (arith, short, size)) in
    let erase : (kind_at all used == 0) ≡ false = ap (λ k. k == 0) kind in
    record {
      place = place_behind used 1 at n front rest long low;
      wide = wide ∙ sym size;
      done = done_if all used false erase ∙ ap (λ m. replicate {A = ℕ} m 255) wide;
      room = room_if all used false erase ∙ omega arith;
    }

-- What a journal is after an entry was appended.
pub record IsAppended (base before after : List ℕ) (used writes : ℕ) (step : Step) : Type 0 where
  pub end : position after (writes + 1) ≡ used + length (spelled step)
  pub bytes : replayed base after (writes + 1) ≡ replaced (at_of step) (range_of step) (replayed base before writes)
  pub entries : AreEntries (length base) after (writes + 1)

pub appended : (base journal entry rest : List ℕ) (used writes : ℕ) (step : Step) → used ≤ length journal
    → used ≡ position journal writes → AreEntries (length base) journal writes
    → at_of step + length (range_of step) ≤ length base → length base < 2 ^ 32 → entry ≡ spelled step
    → IsAppended base journal (take used journal ++ (entry ++ rest)) used writes step
appended base journal entry rest used writes step fits end are inside small spells =
    let front : List ℕ = take used journal in
    let after : List ℕ = front ++ (spelled step ++ rest) in
    let long : length front ≡ used = length-take used journal ∙ omega (arith, fits) in
    let last = entry_behind used step front rest long (omega (arith, inside, small)) (omega (arith, inside, small)) in
    let same : take used journal ≡ take used after = sym (take_at front (spelled step ++ rest) used long) in
    let size : length after ≡ used + (length (spelled step) + length rest)
    = length-append front (spelled step ++ rest) ∙ omega (arith, long, length-append (spelled step) rest) in
    let here : position after writes ≡ used
    = sym (position_same used writes journal after same (omega (arith, end))) ∙ sym end in
    let next : suc writes ≡ writes + 1 = omega arith in
    let is : IsAppended base journal after used writes step = record {
      end = ap (λ m. position after m) (sym next) ∙ ap (λ s. s + room_at after s) here ∙ ap (λ r. used + r) last.room;
      bytes = ap (λ m. replayed base after m) (sym next)
          ∙ ap (λ s. replaced (place_at after s) (done_at after s) (replayed base after writes)) here
          ∙ ap (λ p. replaced p (done_at after used) (replayed base after writes)) last.place
          ∙ ap (λ (r : List ℕ). replaced (at_of step) r (replayed base after writes)) last.done
          ∙ ap (λ (b : List ℕ). replaced (at_of step) (range_of step) b)
          (sym (replayed_same base used writes journal after same (omega (arith, end))));
      entries = λ k below. ⊎_elim
          (λ (old : k < writes).
          let start : ℕ = position journal k in
          let ends : start + room_at journal start ≤ used
          = omega (arith, position_at_most journal (suc k) writes (omega (arith, old)), end) in
          let least = room_least journal start in
          let there : start ≡ position after k = position_same used k journal after same (omega (arith, ends)) in
          subst (λ s. IsEntryAt (length base) after s) there (record {
            whole = omega (arith, room_same used start journal after same (omega (arith, ends, least)), ends, size);
            inside = omega (
              arith,
              number_same used (start + 4) journal after same (omega (arith, ends, least)),
              number_same used (start + 8) journal after same (omega (arith, ends, least)),
              (are k old).inside,
            );
          }))
          (λ (new : writes ≤ k).
          let it : used ≡ position after k = sym here ∙ ap (λ m. position after m) (omega (arith, new, below)) in
          subst (λ s. IsEntryAt (length base) after s) it (record {
            whole = omega (arith, last.room, size);
            inside = omega (arith, last.place, last.wide, inside);
          }))
          (cases_lt k writes);
    } in
    subst (λ (e : List ℕ). IsAppended base journal (front ++ (e ++ rest)) used writes step) (sym spells) is

-- ---- the bytes of a step

blank_bytes : (n k : ℕ) → slice_index (replicate {A = ℕ} n 255) k < 256
blank_bytes zero k = omega arith
blank_bytes (suc n) zero = omega arith
blank_bytes (suc n) (suc k) = blank_bytes n k

range_bytes : (step : Step) → ((k : ℕ) → slice_index (spelled step) k < 256) → (k : ℕ) → slice_index (range_of step) k < 256
range_bytes (Programmed at bytes) below k = below (suc (suc (suc (suc (suc (suc (suc (suc (suc (suc (suc (suc k))))))))))))
range_bytes (Erased at n) below k = blank_bytes n k

pub step_bytes : (step : Step) (bytes : List ℕ) → ((k : ℕ) → slice_index bytes k < 256)
    → ((k : ℕ) → slice_index (spelled step) k < 256) → (k : ℕ)
    → slice_index (replaced (at_of step) (range_of step) bytes) k < 256
step_bytes step bytes below entry =
    subst (λ (l : List ℕ). (k : ℕ) → slice_index (take (at_of step) bytes ++ (range_of step ++ l)) k < 256)
    (drop-drop (length (range_of step)) (at_of step) bytes)
    (bytes_back (at_of step) (length (range_of step)) bytes (range_of step) below (range_bytes step entry))

-- ---- a flash after a write was recorded

abbrev grown : Recording → List ℕ → ℕ → ℕ → List ℕ → Recording
grown old bytes used asked journal = record {
  chip = record (old.chip) { bytes = bytes; writes = old.chip.writes + 1; journaled = asked };
  used = used;
  journal = journal;
}

pub records_done : (step : Step) (old : Recording) (bytes : List ℕ) (used asked : ℕ) (journal : List ℕ)
    → old.chip.is_on ≡ true → old.used + length (spelled step) ≤ length old.journal
    → bytes ≡ replaced (at_of step) (range_of step) old.chip.bytes → used ≡ old.used + length (spelled step)
    → asked ≡ old.chip.journaled + length (spelled step) → journal ≡ replaced old.used (spelled step) old.journal
    → Records (Ok tt) step (recorded step old) old (grown old bytes used asked journal)
records_done step old bytes used asked journal on fits is_bytes is_used is_asked is_journal = record {
  off = λ off. absurd (false≢true (sym off ∙ on));
  fits = λ on fits. (
    refl,
    ap (λ (b : List ℕ). grown old b used asked journal) is_bytes
        ∙ ap (λ u. grown old (replaced (at_of step) (range_of step) old.chip.bytes) u asked journal) is_used
        ∙ ap (λ q. grown old (replaced (at_of step) (range_of step) old.chip.bytes) (old.used + length (spelled step)) q journal) is_asked
        ∙ ap (λ (j : List ℕ). grown old (replaced (at_of step) (range_of step) old.chip.bytes) (old.used + length (spelled step))
        (old.chip.journaled + length (spelled step)) j) is_journal,
  );
  full = λ on full. absurd (omega (arith, fits, full));
}

-- ---- a write that is asked for

-- The range of the write lies in the flash.
pub range_inside : (size at : ℕ) (asked : Asked) (bytes : List ℕ) → IsAccepted size (step_of at asked) bytes
    → at_of (step_of at asked) + length (range_of (step_of at asked)) ≤ length bytes
range_inside size at asked bytes is =
    omega (arith, lies_inside size at asked bytes is, length_is at asked, at_is at asked)

pub appended_asked : (size total at : ℕ) (asked : Asked) (base journal entry rest : List ℕ) (used writes : ℕ)
    → IsAccepted size (step_of at asked) (replayed base journal writes) → length (replayed base journal writes) ≡ total
    → length base ≡ total → total < 2 ^ 32 → used ≤ length journal → used ≡ position journal writes
    → AreEntries (length base) journal writes → entry ≡ spelled (step_of at asked)
    → IsAppended base journal (take used journal ++ (entry ++ rest)) used writes (step_of at asked)
appended_asked size total at asked base journal entry rest used writes is long whole small fits end are spells =
    let inside = range_inside size at asked (replayed base journal writes) is in
    appended base journal entry rest used writes (step_of at asked) fits end are
    (omega (arith, inside, long, whole)) (omega (arith, whole, small)) spells

-- What an index needs to know of the journal.
pub one_more_asked : (size total at : ℕ) (asked : Asked) (base journal entry rest : List ℕ) (used writes : ℕ)
    → IsAccepted size (step_of at asked) (replayed base journal writes) → length (replayed base journal writes) ≡ total
    → length base ≡ total → total < 2 ^ 32 → used ≤ length journal → used ≡ position journal writes
    → AreEntries (length base) journal writes → entry ≡ spelled (step_of at asked)
    → IsOneMore size base journal (take used journal ++ (entry ++ rest)) writes (step_of at asked)
one_more_asked size total at asked base journal entry rest used writes is long whole small fits end are spells =
    let step : Step = step_of at asked in
    let after : List ℕ = take used journal ++ (entry ++ rest) in
    let front : length (take used journal) ≡ used = length-take used journal ∙ omega (arith, fits) in
    let same : take used journal ≡ take used after = sym (take_at (take used journal) (entry ++ rest) used front) in
    let grown = appended_asked size total at asked base journal entry rest used writes is long whole small fits end are spells in
    let below : (k : ℕ) → k ≤ writes → position journal k ≤ used
    = λ k most. omega (arith, position_at_most journal k writes most, end) in
    record {
      positions = λ k most. sym (position_same used k journal after same (below k most));
      before = λ k most. sym (replayed_same base used k journal after same (below k most));
      end = grown.end ∙ ap (λ u. u + length (spelled step)) end;
      bytes = grown.bytes;
      accepted = is;
    }
