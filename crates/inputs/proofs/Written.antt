-- The contents of a file after a changed range was written to it, and the result of a write.
use Rattle.std.proofs.Common.{◌≡◌, ℕ, ◌+◌, ◌-◌, ◌<◌, ◌≤◌, Bool, true, false, List, length, take}
use Rattle.std.proofs.Common.{Option, None, Some, Result, Ok, Err, OnOk, option_map, slice_index, slice_range}
use Rattle.std.proofs.Common.{refl, sym, ◌∙◌, ap, arith, ⊎_elim}
use Rattle.std.specs.Result.{is_ok, is_err}
use Rattle.std.proofs.lemmas.Bool.{cases_lt, false≢true}
use Rattle.std.proofs.lemmas.List.{ext_get_or, get_or_append_left, get_or-append_right, length-take}
use Rattle.std.proofs.lemmas.Option.{none-some, same_Some}
use Rattle.flash_model.specs.declared.error.FlashError.{FlashError}
use Rattle.flash_model.specs.Chip.{Chip, SameOutside}
use Rattle.flash_model.specs.Memory.{Writes}
use Rattle.flash_model.specs.Torn.{replaced}
use Rattle.inputs.specs.FileFlash.{OverFile, WritesThrough}
use Rattle.flash_model.proofs.Ranges.{length_range, range_at}
use Rattle.flash_model.proofs.TornBytes.{outside_of_replaced}

-- If only a range changed, writing that range over the old bytes gives the new ones.
pub replaced_range : (at n : ℕ) (old new : Chip) → SameOutside at n old new → at + n ≤ length old.bytes
    → replaced at (slice_range new.bytes at (at + n)) old.bytes ≡ new.bytes
replaced_range at n old new same inside =
    let range = slice_range new.bytes at (at + n) in
    let long : length range ≡ n = length_range new.bytes at (at + n) ∙ omega (arith, same.size) in
    let front : length (take at old.bytes) ≡ at = length-take at old.bytes ∙ omega arith in
    let put : Chip = record old { bytes = replaced at range old.bytes } in
    let beside : SameOutside at n old put = outside_of_replaced at n range old put long inside refl refl refl refl in
    ext_get_or 0 put.bytes new.bytes (beside.size ∙ sym same.size) (λ k lt. ⊎_elim
    (λ (low : k < at). beside.before k low ∙ sym (same.before k low))
    (λ (high : at ≤ k). ⊎_elim
    (λ (within : k < at + n).
    get_or-append_right (take at old.bytes) _ at k 0 front high
    ∙ get_or_append_left range _ 0 (k - at) (omega (arith, long))
    ∙ range_at new.bytes at (at + n) (k - at) (omega arith)
    ∙ ap (λ i. slice_index new.bytes i) (omega arith))
    (λ (behind : at + n ≤ k). beside.after k behind ∙ sym (same.after k behind))
    (cases_lt k (at + n)))
    (cases_lt k at))

-- A file that held the old bytes holds the new ones.
pub written_through : (at n : ℕ) (old new : Chip) (before after : Option (List ℕ)) (all : List ℕ)
    → SameOutside at n old new → at + n ≤ length old.bytes
    → ((held : List ℕ) → before ≡ Some held → held ≡ old.bytes)
    → after ≡ option_map (replaced at (slice_range new.bytes at (at + n))) before
    → after ≡ Some all → all ≡ new.bytes
written_through at n old new None after all same inside held is known = absurd (none-some all (sym is ∙ known))
written_through at n old new (Some bytes) after all same inside held is known =
    sym (same_Some _ all (sym is ∙ known))
    ∙ ap (λ x. replaced at (slice_range new.bytes at (at + n)) x) (held bytes refl)
    ∙ replaced_range at n old new same inside

-- This holds after each write of the file that didn't fail.
pub still_written : {E : Type 0} (through : Result Unit E) (failed : Bool) (at n : ℕ) (old new : Chip)
    (before after : Option (List ℕ)) → failed ≡ is_err through
    → OnOk through (after ≡ option_map (replaced at (slice_range new.bytes at (at + n))) before)
    → SameOutside at n old new → at + n ≤ length old.bytes
    → ((held : List ℕ) → before ≡ Some held → held ≡ old.bytes)
    → failed ≡ false → (all : List ℕ) → after ≡ Some all → all ≡ new.bytes
still_written (Ok value) failed at n old new before after is through same inside held fine all known =
    written_through at n old new before after all same inside held through known
still_written (Err error) failed at n old new before after is through same inside held fine all known =
    absurd (false≢true (sym fine ∙ is))

-- A write that succeeded in memory and in the file is done.
pub done_through : (below : Result Unit FlashError) (at : ℕ) (range : List ℕ) (done : Chip)
    (old new : OverFile) → Writes below at range done old.memory new.memory → is_ok below ≡ true
    → old.memory.is_on ≡ true → old.chip.is_on ≡ true → old.has_failed ≡ false → new.has_failed ≡ false
    → WritesThrough (Ok tt) at range done old new
done_through below at range done old new writes is powered on before after = record {
  off = λ off. absurd (false≢true (sym off ∙ on));
  failed = λ _ failed. absurd (false≢true (sym before ∙ failed));
  on = λ _ _ unarmed. ((writes.on powered unarmed).1, (λ _. after, λ _. refl));
  armed = λ left _ _ armed. absurd (false≢true (sym (ap is_ok (writes.armed left powered armed).0) ∙ is));
}
