-- Lemmas about a flash with a journal: what it records, and the laws of a flash.
use Rattle.std.proofs.Common.{◌≡◌, ℕ, zero, suc, ◌+◌, ◌-◌, ◌^◌, ◌<◌, ◌≤◌, List, [], ◌∷◌, ◌++◌, length, map, drop, take, replicate, true, false}
use Rattle.std.proofs.Common.{Result, Ok, Err, refl, sym, ◌∙◌, ap, subst, arith, ⊎_elim}
use Rattle.std.specs.Result.{is_ok}
use Rattle.std.proofs.Math.Logic.{∥∥₁_map}
use Rattle.std.proofs.lemmas.Bool.{cases_Bool, cases_lt, false≢true}
use Rattle.std.proofs.lemmas.List.{append_assoc, drop_at, drop-drop, length-append, length-map, length-replicate, length-take, take_at}
use Rattle.flash_model.specs.declared.error.FlashError.{FlashError}
use Rattle.flash_model.specs.declared.error.FlashError.TheVariants.{Cut, Off}
use Rattle.flash_model.specs.Chip.{Chip, Fixed, reached}
use Rattle.flash_model.specs.Calls.{Programs}
use Rattle.flash_model.specs.Torn.{replaced}
use Rattle.flash_model.specs.Written.{AreWrites, Erase, IsWrite, IsWrittenBy, Program, Write, performed}
use Rattle.flash_model.proofs.Ending.{ends_cut, ends_well}
use Rattle.flash_model.proofs.TornBytes.{outside_of_replaced, reads_of_replaced}
use Rattle.flash_model.proofs.WrittenLaws.{leaves_done}
use Rattle.slice_flash.specs.declared.steps.Asked.{Asked}
use Rattle.slice_flash.specs.declared.steps.Asked.TheVariants as asked
use Rattle.slice_flash.specs.Asked.{length_of, room_of, step_of}
use Rattle.slice_flash.specs.Recording.{Recording, Records, recorded, refused}
use Rattle.slice_flash.proofs.Refused.{ends_off, fails_program}
use Rattle.slice_flash.specs.Steps.{AreAccepted, IsAccepted, IsRecordedBy, Step, Programmed, Erased, after_steps, at_of, fixed_over, range_of, spelled, spelling}

-- No number is on the empty list.
reached_nothing : (n : ℕ) → reached [] n ≡ 0
reached_nothing zero = refl
reached_nothing (suc n) = reached_nothing n

-- No write is armed, so each cut is a fault.
pub cut_by_faults : (cuts writes : ℕ) → cuts ≡ reached [] writes + cuts
cut_by_faults cuts writes = omega (arith, reached_nothing writes)

-- ---- the writes of a journal, as the law of a flash has them

abbrev write_of : Step → Write
write_of step = record { at = at_of step; done = range_of step }

is_write : (size : ℕ) (step : Step) (bytes : List ℕ) → IsAccepted size step bytes → IsWrite size (write_of step) bytes
is_write size (Programmed at done) bytes is = Program is
is_write size (Erased at n) bytes is =
    Erase is.sector is.place (subst (λ m. at + m ≤ length bytes) is.whole is.inside) (ap (λ m. replicate m 255) is.whole)

same_bytes : (fixed : Fixed) (steps : List Step) → fixed.numbers ≡ [] → performed fixed (map write_of steps) ≡ after_steps fixed.first steps
same_bytes fixed [] none = refl
same_bytes fixed (step ∷ before) none =
    rw (same_bytes fixed before none)
    (ap (λ (r : List ℕ). replaced (at_of step) r (after_steps fixed.first before))
    (leaves_done fixed (length (map write_of before) + 1) _ (range_of step) (rw none refl)))

are_writes : (size : ℕ) (fixed : Fixed) (steps : List Step) → fixed.numbers ≡ [] → AreAccepted size fixed.first steps
    → AreWrites size fixed (map write_of steps)
are_writes size fixed [] none all = tt
are_writes size fixed (step ∷ before) none (is, all) = (
  subst (λ (bytes : List ℕ). IsWrite size (write_of step) bytes) (sym (same_bytes fixed before none))
      (is_write size step (after_steps fixed.first before) is),
  are_writes size fixed before none all,
)

-- Each entry has at least 12 bytes.
long_entry : (step : Step) → 12 ≤ length (spelled step)
long_entry (Programmed at bytes) = omega arith
long_entry (Erased at n) = omega arith

few_steps : (steps : List Step) → length steps ≤ length (spelling steps)
few_steps [] = omega arith
few_steps (step ∷ before) =
    omega (arith, few_steps before, long_entry step, length-append (spelling before) (spelled step))

pub is_written : (size : ℕ) (first : List ℕ) (name : ℕ) (journal_first : List ℕ) (journal_name : ℕ) (bytes recorded : List ℕ)
    (writes : ℕ) → writes < 2 ^ 64 → ∥ IsRecordedBy size first bytes recorded writes ∥₁
    → ∥ IsWrittenBy size (fixed_over first name journal_first journal_name) bytes writes ∥₁
is_written size first name journal_first journal_name bytes recorded writes below was = ∥∥₁_map was (λ is.
    let fixed : Fixed = fixed_over first name journal_first journal_name in record {
      journal = map write_of is.steps;
      counted = omega (arith, below, is.counted, length-map is.steps write_of);
      replayed = same_bytes fixed is.steps refl ∙ sym is.makes;
      taken = are_writes size fixed is.steps refl is.accepted;
    })

-- ---- a write that is asked for

pub room_is : (at : ℕ) (asked : Asked) → room_of asked ≡ length (spelled (step_of at asked))
room_is at (asked.Program bytes) = omega arith
room_is at (asked.Erase n) = omega arith

pub length_is : (at : ℕ) (asked : Asked) → length (range_of (step_of at asked)) ≡ length_of asked
length_is at (asked.Program bytes) = refl
length_is at (asked.Erase n) = length-replicate {A = ℕ} n 255

pub at_is : (at : ℕ) (asked : Asked) → at ≡ at_of (step_of at asked)
at_is at (asked.Program bytes) = refl
at_is at (asked.Erase n) = refl

pub lies_inside : (size at : ℕ) (asked : Asked) (bytes : List ℕ) → IsAccepted size (step_of at asked) bytes
    → at + length_of asked ≤ length bytes
lies_inside size at (asked.Program done) bytes is = is.inside
lies_inside size at (asked.Erase n) bytes is = is.inside

-- ---- one more entry of a journal

length-front : (used room : ℕ) (journal new : List ℕ) → used ≤ length journal → length new ≡ room
    → length (take used journal ++ new) ≡ used + room
length-front used room journal new fits long =
    omega (arith, length-append (take used journal) new, length-take used journal, fits, long)

-- The used bytes of a journal after an entry was put after them.
entry_taken : (used room : ℕ) (journal new rest : List ℕ) → used ≤ length journal → length new ≡ room
    → take (used + room) (take used journal ++ (new ++ rest)) ≡ take used journal ++ new
entry_taken used room journal new rest fits long =
    ap (λ (l : List ℕ). take (used + room) l) (sym (append_assoc (take used journal) new rest))
    ∙ take_at (take used journal ++ new) rest (used + room) (length-front used room journal new fits long)

-- The bytes after the used ones stay.
pub rest_kept : (used room : ℕ) (journal first new : List ℕ) → used ≤ length journal → length new ≡ room
    → drop used journal ≡ drop used first
    → drop (used + room) (take used journal ++ (new ++ drop (used + room - used) (drop used journal))) ≡ drop (used + room) first
rest_kept used room journal first new fits long same =
    let rest : List ℕ = drop (used + room - used) (drop used journal) in
    ap (λ (l : List ℕ). drop (used + room) l) (sym (append_assoc (take used journal) new rest))
    ∙ drop_at (take used journal ++ new) rest (used + room) (length-front used room journal new fits long)
    ∙ ap (λ (l : List ℕ). drop (used + room - used) l) same
    ∙ drop-drop (used + room - used) used first ∙ ap (λ k. drop k first) (omega arith)

-- The journal records one more write.
pub one_recorded : (size at used room : ℕ) (first bytes journal entry after : List ℕ) (writes : ℕ) (asked : Asked)
    → IsAccepted size (step_of at asked) bytes → room ≡ room_of asked → used ≤ length journal
    → entry ≡ spelled (step_of at asked) → after ≡ replaced (at_of (step_of at asked)) (range_of (step_of at asked)) bytes
    → ∥ IsRecordedBy size first bytes (take used journal) writes ∥₁
    → ∥ IsRecordedBy size first after
    (take (used + room) (take used journal ++ (entry ++ drop (used + room - used) (drop used journal)))) (writes + 1) ∥₁
one_recorded size at used room first bytes journal entry after writes asked taken wide fits spells grows was =
    let step : Step = step_of at asked in
    let tall : length entry ≡ room = ap (λ (l : List ℕ). length l) spells ∙ sym (room_is at asked) ∙ sym wide in
    ∥∥₁_map was (λ is. record {
      steps = step ∷ is.steps;
      spells = entry_taken used room journal entry _ fits tall
          ∙ ap (λ (l : List ℕ). l ++ entry) is.spells ∙ ap (λ (l : List ℕ). spelling is.steps ++ l) spells;
      counted = omega (arith, is.counted);
      makes = grows ∙ ap (λ (l : List ℕ). replaced (at_of step) (range_of step) l) is.makes;
      accepted = (subst (λ (l : List ℕ). IsAccepted size step l) is.makes taken, is.accepted);
    })

-- ---- a write of a flash with a journal, as a write of a flash

abbrev writes_range : Step → Recording → Recording → Result Unit FlashError → Type 0
writes_range step old new result = Programs (at_of step) (range_of step) old.chip new.chip result

entry_most : (step : Step) → length (spelled step) ≤ 12 + length (range_of step)
entry_most (Programmed at bytes) = omega arith
entry_most (Erased at n) = omega arith

done_programs : (step : Step) (old : Recording) → at_of step + length (range_of step) ≤ length old.chip.bytes
    → old.chip.is_on ≡ true → writes_range step old (recorded step old) (Ok tt)
done_programs step old inside on =
    let new : Chip = (recorded step old).chip in
    record {
      outside = outside_of_replaced (at_of step) (length (range_of step)) (range_of step) old.chip new refl inside refl refl refl refl;
      ok = reads_of_replaced (at_of step) (range_of step) old.chip.bytes new inside refl;
      on = on;
      erases = refl;
      journal = omega (arith, entry_most step);
      ends = ends_well tt old.chip new (record { on = refl; cuts = refl }) (λ off. absurd (false≢true (sym off ∙ on)));
    }

refused_programs : (step : Step) (old : Recording) → old.chip.is_on ≡ true
    → writes_range step old (refused (length (spelled step)) old) (Err Cut)
refused_programs step old on =
    let new : Chip = (refused (length (spelled step)) old).chip in
    fails_program (at_of step) (range_of step) Cut old.chip new refl
    (omega (arith, entry_most step)) (ends_cut on refl refl)

off_programs : (step : Step) (old : Recording) → old.chip.is_on ≡ false → writes_range step old old (Err Off)
off_programs step old off =
    fails_program (at_of step) (range_of step) Off old.chip old.chip refl (omega arith) (ends_off old.chip off)

-- Whatever the journal has room for, the write is a write of a flash.
pub programs_recorded : (result : Result Unit FlashError) (step : Step) (old new : Recording)
    → at_of step + length (range_of step) ≤ length old.chip.bytes
    → Records result step (recorded step old) old new → writes_range step old new result
programs_recorded result step old new inside is = ⊎_elim
    (λ (on : old.chip.is_on ≡ true). ⊎_elim
    (λ (full : length old.journal < old.used + length (spelled step)).
    let so = is.full on full in
    subst (λ (r : Result Unit FlashError). writes_range step old new r) (sym so.0)
    (subst (λ (n : Recording). writes_range step old n (Err Cut)) (sym so.1) (refused_programs step old on)))
    (λ (fits : old.used + length (spelled step) ≤ length old.journal).
    let so = is.fits on fits in
    subst (λ (r : Result Unit FlashError). writes_range step old new r) (sym (ok_of result so.0))
    (subst (λ (n : Recording). writes_range step old n (Ok tt)) (sym so.1) (done_programs step old inside on)))
    (cases_lt (length old.journal) (old.used + length (spelled step))))
    (λ (off : old.chip.is_on ≡ false).
    let so = is.off off in
    subst (λ (r : Result Unit FlashError). writes_range step old new r) (sym so.0)
    (subst (λ (n : Recording). writes_range step old n (Err Off)) (sym so.1) (off_programs step old off)))
    (cases_Bool old.chip.is_on)
  where
    ok_of : (r : Result Unit FlashError) → is_ok r ≡ true → r ≡ Ok tt
    ok_of (Ok done) is = refl
    ok_of (Err error) is = absurd (false≢true is)

-- Such a write asks for at most the bytes of its entry.
pub asked_recorded : (result : Result Unit FlashError) (step : Step) (old new : Recording)
    → Records result step (recorded step old) old new
    → new.chip.journaled ≤ old.chip.journaled + length (spelled step)
asked_recorded result step old new is = ⊎_elim
    (λ (on : old.chip.is_on ≡ true). ⊎_elim
    (λ (full : length old.journal < old.used + length (spelled step)). rw (is.full on full).1 (omega arith))
    (λ (fits : old.used + length (spelled step) ≤ length old.journal). rw (is.fits on fits).1 (omega arith))
    (cases_lt (length old.journal) (old.used + length (spelled step))))
    (λ (off : old.chip.is_on ≡ false). rw (is.off off).1 (omega arith))
    (cases_Bool old.chip.is_on)
