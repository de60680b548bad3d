-- Lemmas about an index of the entries of a journal: what it says stays right when an entry is added.
use Rattle.std.proofs.Common.{◌≡◌, ℕ, ◌+◌, ◌-◌, ◌*◌, ◌/◌, ◌%◌, ◌^◌, ◌<◌, ◌≤◌, ◌==◌, ◌⊎◌, inl, inr, List, length, replicate, slice_index, slice_set, get_or, true, false}
use Rattle.std.proofs.Common.{bit_or, refl, sym, ◌∙◌, ap, subst, arith, ⊎_elim}
use Rattle.std.specs.Int.{bit_at, w64}
use Rattle.std.specs.List.{All}
use Rattle.std.proofs.Math.Nat.{mul-div_cancel}
use Rattle.std.proofs.lemmas.Bool.{cases_eq, cases_lt, false≢true}
use Rattle.std.proofs.lemmas.List.{get_or-replicate, get_or-set_same, get_or-set_other, length-replicate}
use Rattle.std.proofs.lemmas.List.Elements.{All-replicate, All-set}
use Rattle.std.proofs.lemmas.Nat.Bits.{bit_at_ones, bit_at_set_same, bit_at_set_other}
use Rattle.flash_model.proofs.Frame.{product_le}
use Rattle.slice_flash.specs.Index.{is_touched, IsIndex, IsOneMore, IsRow, IsShort, IsStart, IsUntouched, PutsRow, Held, TooLong, first_start, start_in}
use Rattle.slice_flash.specs.Overlay.{position, replayed}
use Rattle.slice_flash.specs.Steps.{IsSectorAt, Step, Programmed, Erased, at_of, range_of}
use Rattle.slice_flash.specs.declared.index.Index.{Index}
use Rattle.slice_flash.specs.declared.index.Row.{Row}
use Rattle.slice_flash.specs.declared.index.Start.{Start}
use Rattle.slice_flash.proofs.Parts.{before_replaced, in_replaced, after_replaced}

-- ---- the bits of the set of touched sectors

-- The words after the bit of a sector was set.
abbrev pub with_bit : List ℕ → ℕ → List ℕ
with_bit touched sector =
    let word = sector / 64 % 16 in
    slice_set touched word (bit_or (slice_index touched word) (1 * 2 ^ (sector % 64) % 2 ^ 64))

pub bit_is_set : (touched : List ℕ) (sector : ℕ) → length touched ≡ 16 → is_touched (with_bit touched sector) sector ≡ true
bit_is_set touched sector long =
    let word : ℕ = sector / 64 % 16 in
    let bit : ℕ = sector % 64 in
    let new : ℕ = bit_or (slice_index touched word) (1 * 2 ^ bit % 2 ^ 64) in
    ap (λ n. bit_at n bit == 1) (get_or-set_same touched word new 0 (omega (arith, long)))
    ∙ ap (λ b. b == 1) (bit_at_set_same w64 (slice_index touched word) bit (omega arith))

pub bit_stays_unset : (touched : List ℕ) (sector other : ℕ) → length touched ≡ 16
    → is_touched (with_bit touched sector) other ≡ false → is_touched touched other ≡ false
bit_stays_unset touched sector other long unset =
    let word : ℕ = sector / 64 % 16 in
    let bit : ℕ = sector % 64 in
    let new : ℕ = bit_or (slice_index touched word) (1 * 2 ^ bit % 2 ^ 64) in
    ⊎_elim
    (λ (here : other / 64 % 16 ≡ word).
    let put : slice_index (with_bit touched sector) (other / 64 % 16) ≡ new
    = ap (λ i. slice_index (with_bit touched sector) i) here ∙ get_or-set_same touched word new 0 (omega (arith, long)) in
    ⊎_elim
    (λ (same : other % 64 ≡ bit).
    let set : is_touched (with_bit touched sector) other ≡ true
    = ap (λ n. bit_at n (other % 64) == 1) put ∙ ap (λ b. bit_at new b == 1) same
    ∙ ap (λ b. b == 1) (bit_at_set_same w64 (slice_index touched word) bit (omega arith)) in
    absurd (false≢true (sym unset ∙ set)))
    (λ (different : other % 64 ≡ bit → ⊥).
    ap (λ i. bit_at (slice_index touched i) (other % 64) == 1) here
    ∙ ap (λ b. b == 1) (sym (bit_at_set_other w64 (slice_index touched word) bit (omega arith) (other % 64) different))
    ∙ ap (λ n. bit_at n (other % 64) == 1) (sym put) ∙ unset)
    (cases_eq (other % 64) bit))
    (λ (apart : other / 64 % 16 ≡ word → ⊥).
    ap (λ n. bit_at n (other % 64) == 1) (sym (get_or-set_other touched word (other / 64 % 16) new 0 apart)) ∙ unset)
    (cases_eq (other / 64 % 16) word)

-- ---- starts, after an entry was added

pub start_kept : (size : ℕ) (base old new : List ℕ) (writes at n : ℕ) (step : Step) (start : Start)
    → IsOneMore size base old new writes step → IsStart base old writes at n start → IsStart base new (writes + 1) at n start
start_kept size base old new writes at n step start more is = record {
  offset = is.offset ∙ sym (more.positions start.entries is.entries);
  entries = omega (arith, is.entries);
  bytes = λ k low high. ap (λ (l : List ℕ). slice_index l k) (more.before start.entries is.entries) ∙ is.bytes k low high;
}

pub rows_kept : (size : ℕ) (base old new : List ℕ) (writes : ℕ) (step : Step) (rows : List Row)
    → IsOneMore size base old new writes step → All (IsRow size base old writes) rows → All (IsRow size base new (writes + 1)) rows
rows_kept size base old new writes step rows more is = λ k d below.
    let row : Row = get_or rows k d in
    start_kept size base old new writes (row.sector * size) size step (start_in row) more (is k d below)

-- ---- sectors, after an entry was added

-- The bytes outside the range of the entry.
outside : (size : ℕ) (base old new : List ℕ) (writes k : ℕ) (step : Step) → IsOneMore size base old new writes step
    → at_of step + length (range_of step) ≤ length (replayed base old writes)
    → (k < at_of step) ⊎ (at_of step + length (range_of step) ≤ k)
    → slice_index (replayed base new (writes + 1)) k ≡ slice_index (replayed base old writes) k
outside size base old new writes k step more inside apart =
    ap (λ (l : List ℕ). slice_index l k) more.bytes
    ∙ ⊎_elim
    (λ (low : k < at_of step). before_replaced (at_of step) (range_of step) (replayed base old writes) k inside low)
    (λ (high : at_of step + length (range_of step) ≤ k).
    after_replaced (at_of step) (range_of step) (replayed base old writes) k inside high)
    apart

-- A sector that the range of the entry doesn't meet, since this range lies in another one.
pub untouched_kept : (size : ℕ) (base old new : List ℕ) (writes sector other : ℕ) (step : Step)
    → IsOneMore size base old new writes step → at_of step + length (range_of step) ≤ length (replayed base old writes)
    → sector * size ≤ at_of step → at_of step + length (range_of step) ≤ sector * size + size → (other ≡ sector → ⊥)
    → IsUntouched size base old writes other → IsUntouched size base new (writes + 1) other
untouched_kept size base old new writes sector other step more inside low high apart is = λ k from to.
    outside size base old new writes k step more inside
    (⊎_elim
    (λ (below : other < sector). inl (omega (arith, product_le other sector size below, to, low)))
    (λ (above : sector ≤ other). inr (omega (arith, product_le sector other size (omega (arith, above, apart)), from, high)))
    (cases_lt other sector))
    ∙ is k from to

-- ---- an index, after an entry was added

step_inside : (size : ℕ) (base old new : List ℕ) (writes : ℕ) (step : Step) → IsOneMore size base old new writes step
    → at_of step + length (range_of step) ≤ length (replayed base old writes)
step_inside size base old new writes (Programmed at bytes) more = more.accepted.inside
step_inside size base old new writes (Erased at n) more = omega (arith, more.accepted.inside, length-replicate {A = ℕ} n 255)

-- The range of the entry lies in a sector whose bit is set.
pub index_grown : (size : ℕ) (base old new : List ℕ) (writes sector : ℕ) (step : Step) (was now : Index)
    → IsOneMore size base old new writes step
    → sector * size ≤ at_of step → at_of step + length (range_of step) ≤ sector * size + size
    → IsIndex size base old writes was → All (IsRow size base new (writes + 1)) now.rows
    → is_touched now.touched sector ≡ true
    → ((other : ℕ) → is_touched now.touched other ≡ false → is_touched was.touched other ≡ false)
    → IsIndex size base new (writes + 1) now
index_grown size base old new writes sector step was now more low high is rows here others = record {
  rows = rows;
  untouched = λ other unset. untouched_kept size base old new writes sector other step more
      (step_inside size base old new writes step more) low high
      (λ same. false≢true (sym unset ∙ ap (λ s. is_touched now.touched s) same ∙ here))
      (is.untouched other (others other unset));
}

-- A read of any range may begin at the first entry.
pub start_at_first : (base journal : List ℕ) (writes at n : ℕ) → IsStart base journal writes at n first_start
start_at_first base journal writes at n = record { offset = refl; entries = omega arith; bytes = λ k low high. refl }

-- The start of a sector that no entry changed before.
pub first_row : (size : ℕ) (base old new : List ℕ) (writes used sector : ℕ) (step : Step) → used ≡ position old writes
    → IsOneMore size base old new writes step → IsUntouched size base old writes sector
    → IsStart base new (writes + 1) (sector * size) size (record { entries = writes; offset = used; is_blank = false })
first_row size base old new writes used sector step here more is =
    let start : Start = record { entries = writes; offset = used; is_blank = false } in
    start_kept size base old new writes (sector * size) size step start more
    (record { offset = here; entries = omega arith; bytes = is })

-- The place of an erase that a driver accepts.
pub erase_place : (size at n : ℕ) (bytes : List ℕ) → 0 < size → IsSectorAt size at n bytes → at / size * size ≡ at
erase_place size at n bytes some is =
    ap (λ a. a / size * size) is.place ∙ ap (λ s. s * size) (mul-div_cancel is.sector some) ∙ sym is.place

-- The start of a sector that the entry erases.
pub erased_row : (size : ℕ) (base old new : List ℕ) (writes used at n : ℕ) → 0 < size → used ≡ position old writes
    → IsOneMore size base old new writes (Erased at n)
    → IsStart base new (writes + 1) (at / size * size) size
    (record { entries = writes + 1; offset = used + 12; is_blank = true })
erased_row size base old new writes used at n some here more = record {
  offset = omega (arith, here, more.end);
  entries = omega arith;
  bytes = λ k low high.
      let place = erase_place size at n _ some more.accepted in
      let long = length-replicate {A = ℕ} n 255 in
      ap (λ (l : List ℕ). slice_index l k) more.bytes
      ∙ in_replaced at (replicate n 255) (replayed base old writes) k (omega (arith, long, more.accepted.inside))
      (omega (arith, low, place)) (omega (arith, high, place, long, more.accepted.whole))
      ∙ get_or-replicate n (k - at) 255 0 (omega (arith, low, high, place, more.accepted.whole));
}

-- A row is right if it holds a right start.
row_right : (size : ℕ) (base journal : List ℕ) (writes sector : ℕ) (start : Start) (row : Row) → row.sector ≡ sector
    → IsShort start (start_in row) → IsStart base journal writes (sector * size) size start
    → IsRow size base journal writes row
row_right size base journal writes sector start row same (Held held) right =
    subst (λ s. IsStart base journal writes (s * size) size (start_in row)) (sym same)
    (subst (λ (s : Start). IsStart base journal writes (sector * size) size s) (sym held) right)
row_right size base journal writes sector start row same (TooLong long held) right =
    subst (λ (s : Start). IsStart base journal writes (row.sector * size) size s) (sym held)
    (start_at_first base journal writes (row.sector * size) size)

-- The rows after that of a sector was set.
pub rows_with : (size : ℕ) (base old new : List ℕ) (writes : ℕ) (step : Step) (was now : List Row) (sector : ℕ) (start : Start)
    → IsOneMore size base old new writes step → All (IsRow size base old writes) was
    → IsStart base new (writes + 1) (sector * size) size start → PutsRow sector start was now
    → All (IsRow size base new (writes + 1)) now
rows_with size base old new writes step was now sector start more is right puts =
    subst (λ (rows : List Row). All (IsRow size base new (writes + 1)) rows) (sym puts.rows)
    (All-set (IsRow size base new (writes + 1)) was (sector % 64) puts.row
    (row_right size base new (writes + 1) sector start puts.row puts.sector_is puts.short right)
    (rows_kept size base old new writes step was more is))

-- ---- an index of no entries, and one whose bits are all set

abbrev pub all_bits : List ℕ
all_bits = replicate 16 (2 ^ 64 - 1)

pub all_bits_set : (sector : ℕ) → is_touched all_bits sector ≡ true
all_bits_set sector =
    ap (λ n. bit_at n (sector % 64) == 1) (get_or-replicate 16 (sector / 64 % 16) (2 ^ 64 - 1) 0 (omega arith))
    ∙ ap (λ b. b == 1) (bit_at_ones 64 (sector % 64) (omega arith))

abbrev pub no_index : Index
no_index = record {
  rows = replicate 64 (record { sector = 0; entries = 0; offset = 0; is_blank = false });
  touched = replicate 16 0;
}

pub index_of_none : (size : ℕ) (base journal : List ℕ) → IsIndex size base journal 0 no_index
index_of_none size base journal = record {
  rows = All-replicate (IsRow size base journal 0) 64
      (record { sector = 0; entries = 0; offset = 0; is_blank = false })
      (record { offset = refl; entries = omega arith; bytes = λ k low high. refl });
  untouched = λ sector unset k low high. refl;
}
