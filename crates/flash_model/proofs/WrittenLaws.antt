-- Lemmas about `IsWrittenBy`: one more write keeps it, and so does arming a write.
use Rattle.std.proofs.Common.{◌≡◌, ℕ, ◌+◌, ◌-◌, ◌^◌, ◌<◌, ◌≤◌, ◌==◌, ◌*◌, Bool, true, false, List, [], ◌∷◌, ◌++◌, length, min, replicate, slice_range}
use Rattle.std.proofs.Common.{Option, Some, None, refl, sym, ◌∙◌, ap, subst, arith, ⊎_elim}
use Rattle.std.specs.Prelude.{find, if◌then◌else◌, map, option_map}
use Rattle.std.specs.List.{All, list_any}
use Rattle.std.specs.Option.{is_some}
use Rattle.std.proofs.Math.Logic.{∥∥₁_map}
use Rattle.std.proofs.lemmas.Bool.{cases_Bool, cases_lt, le-ltb, lt-ltb, ne_eqb}
use Rattle.flash_model.specs.declared.torn.Armed.{Armed}
use Rattle.flash_model.specs.declared.torn.Torn.{Torn}
use Rattle.flash_model.specs.declared.torn.Torn.TheVariants.{Keep, Done, Half, Bytes}
use Rattle.flash_model.specs.Chip.{Chip, Fixed, size_of}
use Rattle.flash_model.specs.Calls.{CanProgram}
use Rattle.flash_model.specs.Memory.{armed_with, one_more}
use Rattle.flash_model.specs.Torn.{Cutting, cutting_of, left_at, left_by, left_of, replaced, torn_bytes, torn_for}
use Rattle.flash_model.specs.Written.{AreWrites, Erase, IsWrite, IsWrittenBy, Program, Write, leaves, performed}
use Rattle.flash_model.proofs.Frame.{product_le}
use Rattle.flash_model.proofs.MemoryLaws.{none_behind}
use Rattle.flash_model.proofs.Reached.{any_of_rows}

-- The fact after one more write that a driver accepts. `range` is what the write left. It is the
-- same for each number that the count of writes can stand for.
pub written_next : (size : ℕ) (fixed : Fixed) (bytes after range : List ℕ) (writes next : ℕ) (write : Write)
    → IsWrite size write bytes
    → ((k : ℕ) → writes ≡ min k (2 ^ 64 - 1)
    → leaves fixed (k + 1) (slice_range bytes write.at (write.at + length write.done)) write.done ≡ range)
    → after ≡ replaced write.at range bytes → next ≡ one_more writes
    → IsWrittenBy size fixed bytes writes → IsWrittenBy size fixed after next
written_next size fixed bytes after range writes next write is left put counts was = record {
  journal = write ∷ was.journal;
  counted = omega (arith, counts, was.counted);
  replayed = rw was.replayed (ap (λ (r : List ℕ). replaced write.at r bytes) (left (length was.journal) was.counted) ∙ sym put);
  taken = (subst (λ (b : List ℕ). IsWrite size write b) (sym was.replayed) is, was.taken);
}

pub written_more : (size : ℕ) (fixed : Fixed) (bytes after range : List ℕ) (writes next : ℕ) (write : Write)
    → IsWrite size write bytes
    → ((k : ℕ) → writes ≡ min k (2 ^ 64 - 1)
    → leaves fixed (k + 1) (slice_range bytes write.at (write.at + length write.done)) write.done ≡ range)
    → after ≡ replaced write.at range bytes → next ≡ one_more writes
    → ∥ IsWrittenBy size fixed bytes writes ∥₁ → ∥ IsWrittenBy size fixed after next ∥₁
written_more size fixed bytes after range writes next write is left put counts was =
    ∥∥₁_map was (written_next size fixed bytes after range writes next write is left put counts)

-- A write after the last number leaves the new bytes.
pub leaves_behind : (fixed : Fixed) (k : ℕ) (old done : List ℕ) → 2 ^ 64 ≤ k → leaves fixed k old done ≡ done
leaves_behind fixed k old done past = rw (le-ltb k (2 ^ 64) past) refl

-- A write before the last number is torn if its number is armed.
pub leaves_torn : (fixed : Fixed) (k : ℕ) (old done : List ℕ) → k < 2 ^ 64
    → list_any (λ number. number == k) fixed.numbers ≡ true → leaves fixed k old done ≡ left_at fixed.cuttings k old done
leaves_torn fixed k old done below is = rw (lt-ltb k (2 ^ 64) below, is) refl

-- A write whose number isn't armed is done.
pub leaves_done : (fixed : Fixed) (k : ℕ) (old done : List ℕ)
    → list_any (λ number. number == k) fixed.numbers ≡ false → leaves fixed k old done ≡ done
leaves_done fixed k old done isnt = ⊎_elim
    (λ (below : k < 2 ^ 64). rw (lt-ltb k (2 ^ 64) below, isnt) refl)
    (λ (past : 2 ^ 64 ≤ k). leaves_behind fixed k old done past)
    (cases_lt k (2 ^ 64))

-- Rows that say what an interrupted write leaves, and say it as their cuttings do.
left_of_rows : {X Y : Type 0} (key : X → ℕ) (value : X → Y) (left : Option Y → List ℕ → List ℕ → List ℕ)
    (cutting : X → Cutting) (k : ℕ) (old done : List ℕ) → ((row : X) → (cutting row).number ≡ key row)
    → left None old done ≡ done → ((row : X) → left_by (cutting row) old done ≡ left (Some (value row)) old done)
    → (rows : List X)
    → left_at (map cutting rows) k old done ≡ left (option_map value (find (λ row. key row == k) rows)) old done
left_of_rows key value left cutting k old done same none some [] = sym none
left_of_rows key value left cutting k old done same none some (row ∷ rows) = ⊎_elim
    (λ (is : (key row == k) ≡ true). rw (same row, is) (some row))
    (λ (isnt : (key row == k) ≡ false).
    rw (same row, isnt) (left_of_rows key value left cutting k old done same none some rows))
    (cases_Bool (key row == k))

-- A write leaves what the first row for its number says.
pub leaves_of_rows : {X Y : Type 0} (key : X → ℕ) (value : X → Y) (left : Option Y → List ℕ → List ℕ → List ℕ)
    (cutting : X → Cutting) (rows : List X) (fixed : Fixed) (k : ℕ) (old done : List ℕ)
    → fixed.numbers ≡ map key rows → fixed.cuttings ≡ map cutting rows → ((row : X) → (cutting row).number ≡ key row)
    → left None old done ≡ done → ((row : X) → left_by (cutting row) old done ≡ left (Some (value row)) old done)
    → k < 2 ^ 64 → (found : Option Y) → option_map value (find (λ row. key row == k) rows) ≡ found
    → leaves fixed k old done ≡ left found old done
leaves_of_rows key value left cutting rows fixed k old done numbers cuttings same none some below None is =
    leaves_done fixed k old done (rw numbers (any_of_rows key value k rows ∙ ap is_some is)) ∙ sym none
leaves_of_rows key value left cutting rows fixed k old done numbers cuttings same none some below (Some found) is =
    leaves_torn fixed k old done below (rw numbers (any_of_rows key value k rows ∙ ap is_some is))
    ∙ rw cuttings (left_of_rows key value left cutting k old done same none some rows)
    ∙ ap (λ (f : Option _). left f old done) is

-- An armed write leaves what its `Torn` says.
cutting_leaves : (write : Armed) (old done : List ℕ) (torn : Torn) → write.torn ≡ torn
    → left_by (cutting_of write) old done ≡ torn_bytes torn old done
cutting_leaves write old done Keep is = rw is refl
cutting_leaves write old done Done is = rw is refl
cutting_leaves write old done Half is = rw is refl
cutting_leaves write old done (Bytes pattern) is = rw is refl

-- A write leaves what `torn_for` says of its number.
leaves_at : (armed : List Armed) (fixed : Fixed) (k : ℕ) (old done : List ℕ) (torn : Option Torn) → k < 2 ^ 64
    → torn_for k armed ≡ torn → leaves (armed_with armed fixed) k old done ≡ left_of torn old done
leaves_at armed fixed k old done torn below is =
    leaves_of_rows (λ (write : Armed). write.at) (λ (write : Armed). write.torn) left_of cutting_of armed
    (armed_with armed fixed) k old done refl refl (λ write. refl) refl
    (λ write. cutting_leaves write old done write.torn refl) below torn is

-- On a flash in memory, a write leaves what `torn_for` says of the number under which it is
-- counted.
pub leaves_armed : (armed : List Armed) (fixed : Fixed) (writes next : ℕ) (torn : Option Torn) (old done : List ℕ)
    → All (λ write. write.at < 2 ^ 64 - 1) armed → next ≡ one_more writes → torn_for next armed ≡ torn
    → (k : ℕ) → writes ≡ min k (2 ^ 64 - 1)
    → leaves (armed_with armed fixed) (k + 1) old done ≡ left_of torn old done
leaves_armed armed fixed writes next torn old done below counts is k counted = ⊎_elim
    (λ (some : k < 2 ^ 64 - 1).
    let same : next ≡ k + 1 = omega (arith, counts, counted, some) in
    leaves_at armed fixed (k + 1) old done torn (omega (arith, some)) (ap (λ n. torn_for n armed) (sym same) ∙ is))
    (λ (stopped : 2 ^ 64 - 1 ≤ k).
    let none : torn_for next armed ≡ None =
    none_behind armed (2 ^ 64 - 1) next below (omega (arith, counts, counted, stopped)) in
    leaves_behind (armed_with armed fixed) (k + 1) old done (omega (arith, stopped))
    ∙ ap (λ (t : Option Torn). left_of t old done) (sym none ∙ is))
    (cases_lt k (2 ^ 64 - 1))

-- If two flashes leave the same of each write in a list, the list makes the same bytes on both.
pub performed_same : (a b : Fixed) (journal : List Write) → a.first ≡ b.first
    → ((k : ℕ) (old done : List ℕ) → 1 ≤ k → k ≤ length journal → leaves a k old done ≡ leaves b k old done)
    → performed a journal ≡ performed b journal
performed_same a b [] first same = first
performed_same a b (write ∷ before) first same =
    let rest : performed a before ≡ performed b before =
    performed_same a b before first (λ k old done some within. same k old done some (omega (arith, within))) in
    rw rest (ap (λ (r : List ℕ). replaced write.at r (performed b before))
    (same (length before + 1) _ write.done (omega arith) (omega arith)))

pub are_writes_same : (size : ℕ) (a b : Fixed) (journal : List Write) → a.first ≡ b.first
    → ((k : ℕ) (old done : List ℕ) → 1 ≤ k → k ≤ length journal → leaves a k old done ≡ leaves b k old done)
    → AreWrites size a journal → AreWrites size b journal
are_writes_same size a b [] first same are = tt
are_writes_same size a b (write ∷ before) first same (is, are) =
    let less : (k : ℕ) (old done : List ℕ) → 1 ≤ k → k ≤ length before → leaves a k old done ≡ leaves b k old done =
    λ k old done some within. same k old done some (omega (arith, within)) in (
      subst (λ (bytes : List ℕ). IsWrite size write bytes) (performed_same a b before first less) is,
      are_writes_same size a b before first less are,
    )

-- Arming a write after others doesn't change what a write of another number leaves.
torn_beside : (armed : List Armed) (write : Armed) (k : ℕ) → (write.at == k) ≡ false
    → torn_for k (armed ++ write ∷ []) ≡ torn_for k armed
torn_beside [] write k other = rw other refl
torn_beside (first ∷ rest) write k other = ⊎_elim
    (λ (is : (first.at == k) ≡ true). rw is refl)
    (λ (isnt : (first.at == k) ≡ false). rw isnt (torn_beside rest write k other))
    (cases_Bool (first.at == k))

leaves_beside : (armed : List Armed) (write : Armed) (fixed : Fixed) (k : ℕ) (old done : List ℕ)
    → (write.at == k) ≡ false
    → leaves (armed_with armed fixed) k old done ≡ leaves (armed_with (armed ++ write ∷ []) fixed) k old done
leaves_beside armed write fixed k old done other = ⊎_elim
    (λ (below : k < 2 ^ 64).
    leaves_at armed fixed k old done (torn_for k armed) below refl
    ∙ sym (leaves_at (armed ++ write ∷ []) fixed k old done (torn_for k armed) below (torn_beside armed write k other)))
    (λ (past : 2 ^ 64 ≤ k).
    leaves_behind (armed_with armed fixed) k old done past
    ∙ sym (leaves_behind (armed_with (armed ++ write ∷ []) fixed) k old done past))
    (cases_lt k (2 ^ 64))

-- Arming a write that is yet to come doesn't change what the earlier writes made.
written_beside : (size : ℕ) (fixed : Fixed) (bytes : List ℕ) (writes : ℕ) (armed : List Armed) (write : Armed)
    → write.at < 2 ^ 64 - 1 → (1 ≤ write.at → writes < write.at)
    → IsWrittenBy size (armed_with armed fixed) bytes writes
    → IsWrittenBy size (armed_with (armed ++ write ∷ []) fixed) bytes writes
written_beside size fixed bytes writes armed write below beside was =
    let a : Fixed = armed_with armed fixed in
    let b : Fixed = armed_with (armed ++ write ∷ []) fixed in
    let same : (k : ℕ) (old done : List ℕ) → 1 ≤ k → k ≤ length was.journal → leaves a k old done ≡ leaves b k old done =
    λ k old done some within. leaves_beside armed write fixed k old done (ne_eqb write.at k (λ is.
    absurd (omega (arith, is, below, was.counted, some, within, beside (omega (arith, is, some)))))) in
    record {
      journal = was.journal;
      counted = was.counted;
      replayed = sym (performed_same a b was.journal refl same) ∙ was.replayed;
      taken = are_writes_same size a b was.journal refl same was.taken;
    }

pub written_pushed : (pushed : Bool) (size : ℕ) (fixed : Fixed) (bytes : List ℕ) (writes : ℕ) (armed new : List Armed)
    (write : Armed) → new ≡ (if pushed then armed ++ write ∷ [] else armed) → write.at < 2 ^ 64 - 1
    → (1 ≤ write.at → writes < write.at) → ∥ IsWrittenBy size (armed_with armed fixed) bytes writes ∥₁
    → ∥ IsWrittenBy size (armed_with new fixed) bytes writes ∥₁
written_pushed true size fixed bytes writes armed new write is below beside was =
    subst (λ (all : List Armed). ∥ IsWrittenBy size (armed_with all fixed) bytes writes ∥₁) (sym is)
    (∥∥₁_map was (written_beside size fixed bytes writes armed write below beside))
written_pushed false size fixed bytes writes armed new write is below beside was =
    subst (λ (all : List Armed). ∥ IsWrittenBy size (armed_with all fixed) bytes writes ∥₁) (sym is) was

-- ---- writes of a flash in memory

pub program_taken : (size at : ℕ) (chip : Chip) (range : List ℕ) → length chip.bytes ≡ size_of chip
    → CanProgram at (length range) chip → IsWrite size (record { at = at; done = range }) chip.bytes
program_taken size at chip range whole can = Program (record {
  inside = omega (arith, can.inside, whole);
  erased = can.erased.each;
  place = can.place;
  units = can.units;
  some = can.some;
})

pub erase_taken : (sector sectors size : ℕ) (bytes : List ℕ) → sector < sectors → length bytes ≡ sectors * size
    → IsWrite size (record { at = sector * size; done = replicate size 255 }) bytes
erase_taken sector sectors size bytes below whole =
    Erase sector refl (omega (arith, whole, product_le sector sectors size below)) refl

-- On a flash with these armed writes, a write of these bytes was done or torn, as `torn_for` says.
pub written_armed : (armed : List Armed) (fixed : Fixed) (size at : ℕ) (range bytes after : List ℕ) (writes next : ℕ)
    (torn : Option Torn) → IsWrite size (record { at = at; done = range }) bytes
    → All (λ write. write.at < 2 ^ 64 - 1) armed → next ≡ one_more writes → torn_for next armed ≡ torn
    → after ≡ replaced at (left_of torn (slice_range bytes at (at + length range)) range) bytes
    → ∥ IsWrittenBy size (armed_with armed fixed) bytes writes ∥₁
    → ∥ IsWrittenBy size (armed_with armed fixed) after next ∥₁
written_armed armed fixed size at range bytes after writes next torn is below counts told put was =
    written_more size (armed_with armed fixed) bytes after _ writes next (record { at = at; done = range }) is
    (leaves_armed armed fixed writes next torn (slice_range bytes at (at + length range)) range below counts told)
    put counts was
