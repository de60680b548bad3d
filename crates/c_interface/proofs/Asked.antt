-- Laws of the bytes that the writes of a call make, with the cuts that its caller lists.
use Rattle.std.proofs.Common.{◌≡◌, ℕ, zero, suc, ◌<◌, ◌≤◌, ◌==◌, true, false, List, [], ◌∷◌, length, map, take, Result, Ok, Err}
use Rattle.std.proofs.Common.{Some, refl, sym, ◌∙◌, ap, subst, inl, inr, ◌⊎◌, arith, ⊎_elim}
use Rattle.std.specs.List.{list_any}
use Rattle.std.proofs.Math.Logic.{∥∥₁_map}
use Rattle.std.proofs.lemmas.Bool.{cases_Bool, cases_lt, ne_eqb}
use Rattle.std.proofs.lemmas.Option.{same_Some}
use Rattle.flash_model.specs.declared.error.FlashError.TheVariants as flash
use Rattle.flash_model.specs.Chip.{Chip, Fixed, reached, unarmed}
use Rattle.flash_model.specs.Torn.{Cutting}
use Rattle.flash_model.specs.Written.{IsWritten, IsWrittenBy}
use Rattle.flash_model.proofs.Reached.{reached_none, reached_one}
use Rattle.flash_model.proofs.WrittenLaws.{are_writes_same, performed_same}
use Rattle.sector_map.specs.declared.layout.SectorMap.{SectorMap}
use Rattle.manifest.specs.declared.identity.Identity.{Identity}
use Rattle.flash_contents.specs.Holding.{DeviceView}
use Rattle.machine.specs.Steps.{cut_of}
use Rattle.machine.specs.declared.error.Fault.{Fault}
use Rattle.machine.specs.declared.error.Fault.TheVariants as no
use Rattle.machine.specs.declared.reply.Reply.{Reply}
use Rattle.machine.specs.declared.reply.Reply.TheVariants as reply_is
use Rattle.boot_core.specs.Answers.{reply_of_result}
use Rattle.boot_core.specs.Provisions.{Provisions}
use Rattle.slice_flash.specs.Rows.{cutting_of, fixed_by, kind_of, numbers_in, pattern_of}
use Rattle.slice_flash.specs.declared.table.ArmedCut.{ArmedCut}
use Rattle.slice_flash.specs.declared.table.Left.{Left}
use Rattle.slice_flash.specs.declared.table.Left.TheVariants.{Keep, Done, Bytes}
use Rattle.c_interface.specs.DeviceCall.{DeviceCall, Accept, Piece, Finish, Withdraw, Confirm, Boot}
use Rattle.c_interface.specs.declared.cuts.CutRow.{CutRow}
use Rattle.c_interface.specs.Calls.{IsCallOf}
use Rattle.c_interface.specs.Cuts.{AreCutsOf, IsCutAsAsked, IsCutOf, IsLeftBy, WritesAsAsked, asked_by, cutting_by, kind_by, numbers_of, pattern_by}
use Rattle.c_interface.proofs.Counting.{same_numbers}

-- ---- what the rows leave

left_same : (row : CutRow) (left : Left) → IsLeftBy row left
    → (kind_of left ≡ kind_by row) × (pattern_of left ≡ pattern_by row)
left_same row Keep is = rw is (refl, refl)
left_same row Done is = rw is (refl, refl)
left_same row (Bytes pattern) (more, is) =
    let zeroth : (row.residue == 0) ≡ false = ne_eqb row.residue 0 (λ e. absurd (omega (arith, e, more))) in
    let first : (row.residue == 1) ≡ false = ne_eqb row.residue 1 (λ e. absurd (omega (arith, e, more))) in
    rw (zeroth, first) (refl, is)

cutting_same : (row : CutRow) (cut : ArmedCut) → IsCutOf row cut → cutting_of cut ≡ cutting_by row
cutting_same row cut is =
    let built : ℕ → ℕ → List ℕ → Cutting = λ n k p. record { number = n; kind = k; pattern = p } in
    let left = left_same row cut.left is.left in
    ap (λ n. built n (kind_of cut.left) (pattern_of cut.left)) is.write
    ∙ ap (λ k. built row.write k (pattern_of cut.left)) left.0
    ∙ ap (λ (p : List ℕ). built row.write (kind_by row) p) left.1

-- The later rows are the later cuts.
rest_of : (row : CutRow) (rows : List CutRow) (cut : ArmedCut) (table : List ArmedCut) → AreCutsOf (row ∷ rows) (cut ∷ table)
    → AreCutsOf rows table
rest_of row rows cut table are = record {
  each = λ k r is. are.each (suc k) r is;
  rest = λ k c past is. are.rest (suc k) c (omega (arith, past)) is;
}

first_of : (row : CutRow) (rows : List CutRow) (cut : ArmedCut) (table : List ArmedCut) → AreCutsOf (row ∷ rows) (cut ∷ table)
    → IsCutOf row cut
first_of row rows cut table are =
    let is = are.each 0 row refl in
    subst (λ (c : ArmedCut). IsCutOf row c) (sym (same_some cut is.0 is.1)) is.2
  where
    same_some : (a b : ArmedCut) → Some a ≡ Some b → a ≡ b
    same_some a b e = same_Some a b e

rows_leave : (n : ℕ) (rows : List CutRow) (table : List ArmedCut) → n ≡ length rows → n ≤ length table → AreCutsOf rows table
    → map cutting_of (take n table) ≡ map cutting_by rows
rows_leave zero [] table is few are = refl
rows_leave zero (row ∷ rows) table is few are = absurd (omega (arith, is))
rows_leave (suc n) [] table is few are = absurd (omega (arith, is))
rows_leave (suc n) (row ∷ rows) [] is few are = absurd (omega (arith, few))
rows_leave (suc n) (row ∷ rows) (cut ∷ table) is few are =
    ap (λ (c : Cutting). c ∷ map cutting_of (take n table)) (cutting_same row cut (first_of row rows cut table are))
    ∙ ap (λ (rest : List Cutting). cutting_by row ∷ rest)
    (rows_leave n rows table (omega (arith, is)) (omega (arith, few)) (rest_of row rows cut table are))

-- A table has the same cuts as the rows that it was made of.
pub same_asked : (rows : List CutRow) (table : List ArmedCut) → AreCutsOf rows table → length rows ≤ length table
    → fixed_by (take (length rows) table) [] 0 ≡ asked_by rows
same_asked rows table are few =
    let these = take (length rows) table in
    ap (λ (l : List ℕ). record unarmed { numbers = l; cuttings = map cutting_of these }) (same_numbers rows table are few)
    ∙ ap (λ (l : List Cutting). record unarmed { numbers = numbers_of rows; cuttings = l })
    (rows_leave (length rows) rows table refl few are)

-- ---- the last write

pub cut_or_not : (reply : Reply) → (cut_of reply ≡ 0) ⊎ (cut_of reply ≡ 1)
cut_or_not reply_is.Done = inl refl
cut_or_not (reply_is.Booted table report permanent) = inl refl
cut_or_not (reply_is.Reverted mask) = inl refl
cut_or_not (reply_is.TrialAgain set left) = inl refl
cut_or_not (reply_is.Refused fault) = inl refl
cut_or_not reply_is.Cut = inr refl

-- If none of the first n writes was reached, no number from 1 to n is on the list.
reached_zero : (numbers : List ℕ) (n : ℕ) → reached numbers n ≡ 0 → (k : ℕ) → 1 ≤ k → k ≤ n
    → list_any (λ number. number == k) numbers ≡ false
reached_zero numbers zero none k some within = absurd (omega (arith, some, within))
reached_zero numbers (suc n) none k some within = ⊎_elim
    (λ (is : list_any (λ number. number == suc n) numbers ≡ true).
    absurd (omega (arith, none, reached_one numbers n is)))
    (λ (isnt : list_any (λ number. number == suc n) numbers ≡ false). ⊎_elim
    (λ (before : k < suc n).
    reached_zero numbers n (sym (reached_none numbers n isnt) ∙ none) k some (omega (arith, before)))
    (λ (past : suc n ≤ k).
    let same : k ≡ suc n = omega (arith, past, within) in
    subst (λ m. list_any (λ number. number == m) numbers ≡ false) (sym same) isnt)
    (cases_lt k (suc n)))
    (cases_Bool (list_any (λ number. number == suc n) numbers))

-- If one write was reached, and the last write is on the list, no earlier write is on it.
last_alone : (numbers : List ℕ) (writes : ℕ) → reached numbers writes ≡ 1
    → list_any (λ number. number == writes) numbers ≡ true → (k : ℕ) → 1 ≤ k → k < writes
    → list_any (λ number. number == k) numbers ≡ false
last_alone numbers zero one is k some before = absurd (omega (arith, before))
last_alone numbers (suc n) one is k some before =
    reached_zero numbers n (omega (arith, one, reached_one numbers n is)) k some (omega (arith, before))

-- ---- what the writes made

written_alike : (size : ℕ) (table : List ArmedCut) (first bytes : List ℕ) (name writes : ℕ)
    → IsWrittenBy size (fixed_by table first name) bytes writes
    → IsWrittenBy size (record (fixed_by table [] 0) { first = first }) bytes writes
written_alike size table first bytes name writes was =
    let a : Fixed = fixed_by table first name in
    let b : Fixed = record (fixed_by table [] 0) { first = first } in
    record {
      journal = was.journal;
      counted = was.counted;
      replayed = sym (performed_same a b was.journal refl (λ k old done some within. refl)) ∙ was.replayed;
      taken = are_writes_same size a b was.journal refl (λ k old done some within. refl) was.taken;
    }

pub writes_as_asked : (table : List ArmedCut) (size name : ℕ) (first : List ℕ) (before left : Chip) (reply : Reply) (writes : ℕ)
    → left.fixed ≡ fixed_by table first name → left.sector_size ≡ size
    → IsCutAsAsked (numbers_in table) before left reply writes → (cut_of reply ≡ 1 → left.is_on ≡ false)
    → (left.is_on ≡ false → list_any (λ number. number == left.writes) left.fixed.numbers ≡ true)
    → ∥ IsWritten left ∥₁ → WritesAsAsked (fixed_by table [] 0) size first left.bytes writes
writes_as_asked table size name first before left reply writes fixed sized cut dark off was = record {
  made = subst (λ w. ∥ IsWrittenBy size (record (fixed_by table [] 0) { first = first }) left.bytes w ∥₁) cut.counted
      (subst (λ s. ∥ IsWrittenBy s (record (fixed_by table [] 0) { first = first }) left.bytes left.writes ∥₁) sized
      (∥∥₁_map (subst (λ (f : Fixed). ∥ IsWrittenBy left.sector_size f left.bytes left.writes ∥₁) fixed was)
      (written_alike left.sector_size table first left.bytes name left.writes)));
  last = λ k some below. ⊎_elim
      (λ (none : cut_of reply ≡ 0).
      reached_zero (numbers_in table) writes (sym cut.cut ∙ none) k some (omega (arith, below)))
      (λ (one : cut_of reply ≡ 1).
      let there : list_any (λ number. number == left.writes) left.fixed.numbers ≡ true = off (dark one) in
      let named : list_any (λ number. number == writes) (numbers_in table) ≡ true =
      subst (λ w. list_any (λ number. number == w) (numbers_in table) ≡ true) cut.counted
      (subst (λ (f : Fixed). list_any (λ number. number == left.writes) f.numbers ≡ true) fixed there) in
      last_alone (numbers_in table) writes (sym cut.cut ∙ one) named k some below)
      (cut_or_not reply);
}

-- ---- a call that is cut leaves the flash off

pub dark_after : (map : SectorMap) (identity : Identity) (boots : ℕ) (call : DeviceCall) (a b : DeviceView) (reply : Reply)
    → IsCallOf map identity boots call a b reply → cut_of reply ≡ 1 → b.flash.is_on ≡ false
dark_after map identity boots (Accept manifest) a b reply (result, same, is) =
    subst (λ r. cut_of r ≡ 1 → b.flash.is_on ≡ false) (sym same) is.ends.dark
dark_after map identity boots (Piece image more) a b reply (result, same, is) =
    subst (λ r. cut_of r ≡ 1 → b.flash.is_on ≡ false) (sym same) is.ends.dark
dark_after map identity boots (Finish image) a b reply (result, same, is) =
    subst (λ r. cut_of r ≡ 1 → b.flash.is_on ≡ false) (sym same) is.ends.dark
dark_after map identity boots (Withdraw image) a b reply (result, same, is) =
    subst (λ r. cut_of r ≡ 1 → b.flash.is_on ≡ false) (sym same) is.ends.dark
dark_after map identity boots (Confirm image) a b reply (result, same, is) =
    subst (λ r. cut_of r ≡ 1 → b.flash.is_on ≡ false) (sym same) is.ends.dark
dark_after map identity boots Boot a b reply (left, last, result, same, is) =
    subst (λ r. cut_of r ≡ 1 → b.flash.is_on ≡ false) (sym same) is.ends.dark

dark_made : (map : SectorMap) (a b : Chip) (result : Result Unit Fault) → Provisions map a b result
    → cut_of (reply_of_result result) ≡ 1 → b.is_on ≡ false
dark_made map a b (Ok done) is one = absurd (omega (arith, one))
dark_made map a b (Err (no.RunningDamaged image)) is one = absurd (omega (arith, one))
dark_made map a b (Err no.InvalidSet) is one = absurd (omega (arith, one))
dark_made map a b (Err (no.Flash flash.Cut)) is one = is.refused.1.off
dark_made map a b (Err (no.Flash flash.Off)) is one = absurd (omega (arith, one))
dark_made map a b (Err no.NotBooted) is one = absurd is.refused
dark_made map a b (Err no.OnTrial) is one = absurd is.refused
dark_made map a b (Err no.NotOnTrial) is one = absurd is.refused
dark_made map a b (Err no.NotProvisioned) is one = absurd is.refused
dark_made map a b (Err no.NoMemory) is one = absurd is.refused
dark_made map a b (Err (no.Manifest error)) is one = absurd is.refused
dark_made map a b (Err (no.Upload error)) is one = absurd is.refused

pub dark_provided : (map : SectorMap) (a b : Chip) (result : Result Unit Fault) (reply : Reply)
    → Provisions map a b result → reply ≡ reply_of_result result → cut_of reply ≡ 1 → b.is_on ≡ false
dark_provided map a b result reply is same =
    subst (λ r. cut_of r ≡ 1 → b.is_on ≡ false) (sym same) (dark_made map a b result is)

-- ---- the new bytes by another name

pub writes_over : (asked : Fixed) (size : ℕ) (old bytes new : List ℕ) (writes : ℕ) → bytes ≡ new
    → WritesAsAsked asked size old bytes writes → WritesAsAsked asked size old new writes
writes_over asked size old bytes new writes same =
    subst (λ (l : List ℕ). WritesAsAsked asked size old l writes) same
