-- States are decoded from the bytes that encode them.
use Rattle.std.proofs.Common.{◌≡◌, ℕ, Bool, true, false, List, ◌++◌, Option, Some, None, length, replicate, slice_index, arith, refl, sym, ◌∙◌, ap, subst, ◌==◌, if◌then◌else◌}
use Rattle.std.proofs.lemmas.Slice.Eq.{bytes_eq-Decides}
use Rattle.std.specs.Str.{bytes_eq}
use Rattle.byteorder.specs.Endian.{little_bytes, little_number}
use Rattle.byteorder.specs.Numbers.{little_number-reads_back}
use Rattle.set_log.specs.declared.state.State.{State}
use Rattle.set_log.specs.declared.state.RecordKind.{RecordKind}
use Rattle.set_log.specs.declared.state.RecordKind.TheVariants.{Steady, Swap, Settle, Trial, Back, BackSettle}
use Rattle.set_log.specs.Record.{kind_number, kind_of, words, words_at, head_bytes, record_bytes, fields, fits, Spells, IsSized, checked, state_in, state_from}
use Rattle.set_log.proofs.Words.{words_back}

pub from_none : (images : ℕ) (bytes : List ℕ) → kind_of (slice_index bytes 0) ≡ None
    → state_from images bytes ≡ None
unfolding state_from
from_none images bytes is = ap (state_in images bytes) is

pub from_some : (images : ℕ) (bytes : List ℕ) (kind : RecordKind) → kind_of (slice_index bytes 0) ≡ Some kind
    → state_from images bytes ≡ checked images bytes (fields kind bytes)
unfolding state_from
from_some images bytes kind is = ap (state_in images bytes) is

pub checked_yes : (images : ℕ) (bytes : List ℕ) (s : State) → fits images s ≡ true
    → bytes ≡ record_bytes s → checked images bytes s ≡ Some s
unfolding checked
checked_yes images bytes s fit is =
    let same : bytes_eq bytes (record_bytes s) ≡ true = (bytes_eq-Decides bytes (record_bytes s)).1 is in
    rw (fit, same) refl

pub checked_unfit : (images : ℕ) (bytes : List ℕ) (s : State) → fits images s ≡ false
    → checked images bytes s ≡ None
unfolding checked
checked_unfit images bytes s fit = rw fit refl

pub checked_other : (images : ℕ) (bytes : List ℕ) (s : State) → fits images s ≡ true
    → (bytes ≡ record_bytes s → ⊥) → checked images bytes s ≡ None
unfolding checked
checked_other images bytes s fit differs = by _ refl
  where
    by : (b : Bool) → bytes_eq bytes (record_bytes s) ≡ b → checked images bytes s ≡ None
    by true is = absurd (differs ((bytes_eq-Decides bytes (record_bytes s)).0 is))
    by false is = rw (fit, is) refl

-- A decoded state encodes as the bytes, and keeps the table of records.
checked_spells : (images : ℕ) (bytes : List ℕ) (s found : State) → checked images bytes s ≡ Some found
    → Spells images bytes found
checked_spells images bytes s found is = by _ refl _ refl
  where
    none : checked images bytes s ≡ None → Spells images bytes found
    none empty = let wrong : None ≡ Some found = sym empty ∙ is in absurd (cc wrong)

    by : (fit : Bool) → fits images s ≡ fit → (same : Bool) → bytes_eq bytes (record_bytes s) ≡ same
        → Spells images bytes found
    by true fit true same =
        let spelled : bytes ≡ record_bytes s = (bytes_eq-Decides bytes (record_bytes s)).0 same in
        let all : Some s ≡ Some found = sym (checked_yes images bytes s fit spelled) ∙ is in
        let one : s ≡ found = cc all in
        record { spelled = spelled ∙ ap record_bytes one; kept = ap (fits images) (sym one) ∙ fit }
    by true fit false same = none (checked_other images bytes s fit
        (λ eq. let wrong : true ≡ false = sym ((bytes_eq-Decides bytes (record_bytes s)).1 eq) ∙ same in cc wrong))
    by false fit same told = none (checked_unfit images bytes s fit)

pub spells_of : (images : ℕ) (bytes : List ℕ) (s : State) → state_from images bytes ≡ Some s
    → Spells images bytes s
spells_of images bytes s is = by _ refl
  where
    by : (kind : Option RecordKind) → kind_of (slice_index bytes 0) ≡ kind → Spells images bytes s
    by None none = let wrong : None ≡ Some s = sym (from_none images bytes none) ∙ is in absurd (cc wrong)
    by (Some kind) some = checked_spells images bytes (fields kind bytes) s
        (sym (from_some images bytes kind some) ∙ is)

kind_back : (k : RecordKind) → kind_of (kind_number k) ≡ Some k
kind_back Steady = refl
kind_back Swap = refl
kind_back Settle = refl
kind_back Trial = refl
kind_back Back = refl
kind_back BackSettle = refl

flag_back : (b : Bool) → ((if b then 1 else 0) == 1) ≡ b
flag_back true = refl
flag_back false = refl

state_is : (s : State) (p : Bool) (q : ℕ) (f : List ℕ) → p ≡ s.permanent → q ≡ s.sequence → f ≡ s.floors
    → record s { permanent = p; sequence = q; floors = f } ≡ s
state_is s p q f ep eq ef = rw (ep, eq, ef) refl

first_back : (s : State) → kind_of (slice_index (record_bytes s) 0) ≡ Some s.kind
unfolding record_bytes
first_back s = kind_back s.kind

fields_back : (s : State) → IsSized s → fields s.kind (record_bytes s) ≡ s
unfolding fields record_bytes
fields_back s sized =
    let rest = words s.floors ++ replicate 16 0 in
    let sequence : little_number 4 (little_bytes 4 s.sequence ++ rest) ≡ s.sequence =
    little_number-reads_back 4 s.sequence rest sized.sequence in
    let floors : words_at 8 (length s.floors) (head_bytes s ++ rest) ≡ s.floors =
    words_back s.floors (head_bytes s) (replicate 16 0) 8 refl
    (λ i lt. sized.floors i (omega (arith, sized.eight))) in
    let eight : words_at 8 8 (head_bytes s ++ rest) ≡ s.floors =
    subst (λ n. words_at 8 n (head_bytes s ++ rest) ≡ s.floors) sized.eight floors in
    state_is s _ _ _ (flag_back s.permanent) sequence eight

pub state_from_back : (images : ℕ) (bytes : List ℕ) (s : State) → IsSized s → Spells images bytes s
    → state_from images bytes ≡ Some s
state_from_back images bytes s sized spells =
    let first : kind_of (slice_index bytes 0) ≡ Some s.kind =
    subst (λ b. kind_of (slice_index b 0) ≡ Some s.kind) (sym spells.spelled) (first_back s) in
    let all : fields s.kind bytes ≡ s = ap (fields s.kind) spells.spelled ∙ fields_back s sized in
    from_some images bytes s.kind first ∙ ap (checked images bytes) all
    ∙ checked_yes images bytes s spells.kept spells.spelled
