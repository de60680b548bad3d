-- Lemmas about the number of writes in the table that a flash took, when the flash takes one more.
use Rattle.std.proofs.Common.{◌≡◌, ℕ, suc, ◌+◌, ◌-◌, ◌^◌, ◌<◌, ◌≤◌, ◌==◌, List}
use Rattle.std.proofs.Common.{Some, None, ap, arith, ⊎_elim}
use Rattle.std.specs.List.{list_any}
use Rattle.std.specs.Option.{is_some}
use Rattle.std.proofs.lemmas.Bool.{cases_lt, le-ltb, lt-ltb}
use Rattle.std.proofs.lemmas.Option.{none-some}
use Rattle.flash_model.specs.Chip.{reached}
use Rattle.flash_model.specs.Memory.{one_more}
use Rattle.flash_model.proofs.Reached.{any_of_rows, reached_no_row, reached_row}
use Rattle.slice_flash.specs.declared.table.ArmedCut.{ArmedCut}
use Rattle.slice_flash.specs.declared.table.Left.{Left}
use Rattle.slice_flash.specs.Rows.{left_after, left_for, numbers_in}

-- The table has a number exactly if a write with this number leaves something.
pub any_number : (number : ℕ) (table : List ArmedCut)
    → list_any (λ n. n == number) (numbers_in table) ≡ is_some (left_for number table)
any_number number table = any_of_rows (λ (cut : ArmedCut). cut.write) (λ (cut : ArmedCut). cut.left) number table

-- A write that isn't in the table adds nothing to the count.
pub reached_uncut : (table : List ArmedCut) (writes next : ℕ) → writes < 2 ^ 64 → next ≡ one_more writes
    → left_after writes table ≡ None → reached (numbers_in table) next ≡ reached (numbers_in table) writes
reached_uncut table writes next below is none = ⊎_elim
    (λ (counts : writes < 2 ^ 64 - 1).
    let same : next ≡ suc writes = omega (arith, is) in
    let left : left_for (writes + 1) table ≡ None = rw (lt-ltb writes (2 ^ 64 - 1) counts) at none in
    let number : writes + 1 ≡ suc writes = omega arith in
    rw same (reached_no_row (λ (cut : ArmedCut). cut.write) (λ (cut : ArmedCut). cut.left) table writes (rw number at left)))
    (λ (stopped : 2 ^ 64 - 1 ≤ writes). ap (λ n. reached (numbers_in table) n) (omega (arith, is)))
    (cases_lt writes (2 ^ 64 - 1))

-- A write that is in the table adds one to the count.
pub reached_cut : (table : List ArmedCut) (writes next : ℕ) (left : Left) → next ≡ one_more writes
    → left_after writes table ≡ Some left
    → reached (numbers_in table) next ≡ reached (numbers_in table) writes + 1
reached_cut table writes next left is some = ⊎_elim
    (λ (counts : writes < 2 ^ 64 - 1).
    let same : next ≡ suc writes = omega (arith, is) in
    let number : writes + 1 ≡ suc writes = omega arith in
    let is_left : left_for (writes + 1) table ≡ Some left = rw (lt-ltb writes (2 ^ 64 - 1) counts) at some in
    rw same (reached_row (λ (cut : ArmedCut). cut.write) (λ (cut : ArmedCut). cut.left) table writes left (rw number at is_left)))
    (λ (stopped : 2 ^ 64 - 1 ≤ writes).
    absurd (none-some left (rw (le-ltb writes (2 ^ 64 - 1) stopped) at some)))
    (cases_lt writes (2 ^ 64 - 1))
