-- The result of a walk over the entries of an area.
use Rattle.std.proofs.Common.{◌≡◌, ℕ, ◌+◌, ◌^◌, ◌<◌, List, [], ◌∷◌, ◌++◌, length, Option, Some, None, refl, sym, ap, subst, ◌∙◌, ◌↔◌, append_assoc, arith}
use Rattle.std.specs.List.{AllByRecursion}
use Rattle.std.proofs.lemmas.Option.{none-some}
use Rattle.std.proofs.lemmas.List.{nil_from_length}
use Rattle.image_reading.specs.Area.{Entry, FitsEntry, entries_bytes, entry_bytes}
use Rattle.image_reading.specs.Fault.{IsFilled}
use Rattle.image_reading.specs.Reading.{entries_of, first_entry, rest_of}
use Rattle.image_reading.specs.Walk.{BeginsWithEntry, IsWalk}
use Rattle.flash_model.specs.Chip.{Chip}
use Rattle.image_reading.specs.declared.span.Span.{Span}
use Rattle.image_reading.specs.Span.{CanRead, bytes_of}
use Rattle.common.specs.Bytes.{IsBytes}
use Rattle.common.proofs.Bytes.{IsBytes-behind}
use Rattle.image_reading.proofs.Spans.{IsBytes-bytes_of}
use Rattle.image_reading.proofs.AreaLaws.{IsFilled-rest_of, entries_of-first, entries_of-none, entries_of-parts, first_entry-entry, first_entry-parts, first_entry-rest_of, rest_of-first, rest_of-none}

-- The entries of an area and its rest are a walk over it.
pub walk_of : (area : List ℕ) → IsBytes area → IsWalk area (entries_of area) (rest_of area)
walk_of area fits =
    let parts = entries_of-parts area fits in
    let none = first_entry-rest_of area fits in
    record {
      parts = parts.0;
      fit = parts.1;
      ended = λ begins.
          let found = first_entry-entry begins.0 begins.1 begins.2 in
          none-some (begins.0, begins.1) (sym none ∙ ap first_entry begins.3 ∙ found);
    }

-- If no entry is at the beginning of bytes, none is found.
no_entry : (bytes : List ℕ) (found : Option (Entry × List ℕ)) → IsBytes bytes → (BeginsWithEntry bytes → ⊥)
    → first_entry bytes ≡ found → first_entry bytes ≡ None
no_entry bytes None fits ended e = e
no_entry bytes (Some found) fits ended e =
    let parts = first_entry-parts bytes found.0 found.1 fits e in
    absurd (ended (found.0, found.1, parts.0, parts.1))

-- So no other walk is possible.
walked : (entries : List Entry) (rest : List ℕ) → AllByRecursion FitsEntry entries → first_entry rest ≡ None
    → (entries ≡ entries_of (entries_bytes entries ++ rest)) × (rest ≡ rest_of (entries_bytes entries ++ rest))
walked [] rest fit none = (sym (entries_of-none rest none), sym (rest_of-none rest none))
walked (entry ∷ entries) rest fit none =
    let later = entries_bytes entries ++ rest in
    let area = entries_bytes (entry ∷ entries) ++ rest in
    let grouped : area ≡ entry_bytes entry ++ later = append_assoc (entry_bytes entry) (entries_bytes entries) rest in
    let first : first_entry area ≡ Some (entry, later) = ap first_entry grouped ∙ first_entry-entry entry later fit.0 in
    let others = walked entries rest fit.1 none in (
      ap (λ (t : List Entry). entry ∷ t) others.0 ∙ sym (entries_of-first area entry later first),
      others.1 ∙ sym (rest_of-first area entry later first),
    )

pub only_walk : (area : List ℕ) (entries : List Entry) (rest : List ℕ) → IsBytes area → IsWalk area entries rest
    → (entries ≡ entries_of area) × (rest ≡ rest_of area)
only_walk area entries rest fits walk =
    let bytes : IsBytes rest = IsBytes-behind (entries_bytes entries) rest (subst IsBytes walk.parts fits) in
    let same = walked entries rest walk.fit (no_entry rest (first_entry rest) bytes walk.ended refl) in
    (same.0 ∙ ap entries_of (sym walk.parts), same.1 ∙ ap rest_of (sym walk.parts))

-- Entries fill an area exactly if nothing is left after them.
pub IsFilled-left : (area left : List ℕ) → IsBytes area → 4 + length area < 2 ^ 16 → left ≡ rest_of area
    → (length left ≡ 0) ↔ IsFilled area
IsFilled-left area left fits short same =
    let filled = IsFilled-rest_of area fits short in
    (λ none. filled.1 (sym same ∙ nil_from_length left none), λ is. ap length (same ∙ filled.0 is))

-- The progress of a walk over an area. The flash is unchanged, the remaining span can be read, and
-- the bytes after all entries are the same.
pub record HasWalked (chip now : Chip) (area left : Span) : Type 0 where
  pub same : now ≡ chip
  pub readable : CanRead chip left
  pub rest : rest_of (bytes_of chip left) ≡ rest_of (bytes_of chip area)

-- The walk continues with a step.
pub HasWalked-step : (chip now next : Chip) (area before left : Span) → HasWalked chip now area before → next ≡ now
    → CanRead now left → rest_of (bytes_of now left) ≡ rest_of (bytes_of now before)
    → HasWalked chip next area left
HasWalked-step chip now next area before left so_far same readable rest = record {
  same = same ∙ so_far.same;
  readable = rw so_far.same at readable;
  rest = rw so_far.same at rest ∙ so_far.rest;
}

-- At its end, the entries fill the area exactly if nothing is left.
pub IsFilled-walked : (chip now : Chip) (area before left : Span) → HasWalked chip now area before
    → IsBytes chip.bytes → 4 + area.len < 2 ^ 16 → CanRead chip area → CanRead now left
    → bytes_of now left ≡ rest_of (bytes_of now before) → (left.len ≡ 0) ↔ IsFilled (bytes_of chip area)
IsFilled-walked chip now area before left so_far fits short readable left_readable ended =
    let can = rw so_far.same at left_readable in
    let at_end = rw so_far.same at ended in
    let filled =
    IsFilled-left (bytes_of chip area) (bytes_of chip left) (IsBytes-bytes_of chip area fits)
    (omega (arith, short, readable.whole)) (at_end ∙ so_far.rest) in
    (λ none. filled.0 (can.whole ∙ none), λ is. sym can.whole ∙ filled.1 is)
