-- Lemmas about `IsWrittenBy` of a flash over borrowed bytes: one more write keeps it.
use Rattle.std.proofs.Common.{◌≡◌, ℕ, ◌+◌, ◌-◌, ◌^◌, ◌<◌, ◌≤◌, ◌==◌, true, List, length, min, slice_range}
use Rattle.std.proofs.Common.{Option, Some, None, refl, sym, ◌∙◌, ap, arith, ⊎_elim}
use Rattle.std.specs.List.{list_any}
use Rattle.std.specs.Option.{is_some}
use Rattle.std.proofs.lemmas.Bool.{cases_lt, le-ltb, lt-ltb}
use Rattle.std.proofs.lemmas.Option.{none-some}
use Rattle.flash_model.specs.Memory.{one_more}
use Rattle.flash_model.specs.Torn.{left_by, replaced}
use Rattle.flash_model.specs.Written.{IsWrite, IsWrittenBy, leaves}
use Rattle.flash_model.proofs.WrittenLaws.{leaves_behind, leaves_of_rows, written_more}
use Rattle.slice_flash.specs.declared.table.ArmedCut.{ArmedCut}
use Rattle.slice_flash.specs.declared.table.Left.{Left}
use Rattle.slice_flash.specs.declared.table.Left.TheVariants.{Keep, Done, Bytes}
use Rattle.slice_flash.specs.Rows.{cutting_of, fixed_by, left_after, left_for, left_of, numbers_in, torn_bytes}
use Rattle.slice_flash.proofs.Reaching.{any_number}

-- An interrupted write leaves what its row says.
cutting_leaves : (cut : ArmedCut) (old done : List ℕ) (left : Left) → cut.left ≡ left
    → left_by (cutting_of cut) old done ≡ torn_bytes left old done
cutting_leaves cut old done Keep is = rw is refl
cutting_leaves cut old done Done is = rw is refl
cutting_leaves cut old done (Bytes pattern) is = rw is refl

-- A write leaves what the table says of its number.
leaves_at : (table : List ArmedCut) (first : List ℕ) (name k : ℕ) (old done : List ℕ) (left : Option Left) → k < 2 ^ 64
    → left_for k table ≡ left → leaves (fixed_by table first name) k old done ≡ left_of left old done
leaves_at table first name k old done left below is =
    leaves_of_rows (λ (cut : ArmedCut). cut.write) (λ (cut : ArmedCut). cut.left) left_of cutting_of table
    (fixed_by table first name) k old done refl refl (λ cut. refl) refl
    (λ cut. cutting_leaves cut old done cut.left refl) below left is

-- A write leaves what the table says of the next number after the count of writes.
leaves_by_table : (table : List ArmedCut) (first : List ℕ) (name writes : ℕ) (left : Option Left) (old done : List ℕ)
    → left_after writes table ≡ left → (k : ℕ) → writes ≡ min k (2 ^ 64 - 1)
    → leaves (fixed_by table first name) (k + 1) old done ≡ left_of left old done
leaves_by_table table first name writes left old done is k counted = ⊎_elim
    (λ (some : k < 2 ^ 64 - 1).
    let same : writes ≡ k = omega (arith, counted, some) in
    let next : left_for (k + 1) table ≡ left = rw (lt-ltb k (2 ^ 64 - 1) some) at rw same at is in
    leaves_at table first name (k + 1) old done left (omega (arith, some)) next)
    (λ (stopped : 2 ^ 64 - 1 ≤ k).
    let same : writes ≡ 2 ^ 64 - 1 = omega (arith, counted, stopped) in
    let none : left_after writes table ≡ None = ap (λ (w : ℕ). left_after w table) same in
    leaves_behind (fixed_by table first name) (k + 1) old done (omega (arith, stopped))
    ∙ ap (λ (l : Option Left). left_of l old done) (sym none ∙ is))
    (cases_lt k (2 ^ 64 - 1))

-- A write of these bytes was done or torn, as the table says.
pub written_by_table : (table : List ArmedCut) (first : List ℕ) (name size at n : ℕ) (range bytes after : List ℕ)
    (writes next : ℕ) (left : Option Left) → IsWrite size (record { at = at; done = range }) bytes
    → next ≡ one_more writes → left_after writes table ≡ left → length range ≡ n
    → after ≡ replaced at (left_of left (slice_range bytes at (at + n)) range) bytes
    → ∥ IsWrittenBy size (fixed_by table first name) bytes writes ∥₁
    → ∥ IsWrittenBy size (fixed_by table first name) after next ∥₁
written_by_table table first name size at n range bytes after writes next left is counts torn long put was =
    written_more size (fixed_by table first name) bytes after _ writes next (record { at = at; done = range }) is
    (leaves_by_table table first name writes left (slice_range bytes at (at + length range)) range torn)
    (put ∙ ap (λ (m : ℕ). replaced at (left_of left (slice_range bytes at (at + m)) range) bytes) (sym long)) counts was

-- The table has the number of each write that it interrupts.
pub number_of_cut : (table : List ArmedCut) (writes next : ℕ) (left : Left) → next ≡ one_more writes
    → left_after writes table ≡ Some left → list_any (λ number. number == next) (numbers_in table) ≡ true
number_of_cut table writes next left is some = ⊎_elim
    (λ (counts : writes < 2 ^ 64 - 1).
    let same : next ≡ writes + 1 = omega (arith, is) in
    let row : left_for (writes + 1) table ≡ Some left = rw (lt-ltb writes (2 ^ 64 - 1) counts) at some in
    rw same (any_number (writes + 1) table ∙ ap is_some row))
    (λ (stopped : 2 ^ 64 - 1 ≤ writes).
    absurd (none-some left (rw (le-ltb writes (2 ^ 64 - 1) stopped) at some)))
    (cases_lt writes (2 ^ 64 - 1))
