-- Lemmas about units that are erased or set.
use Rattle.std.proofs.Common.{◌≡◌, ◌≢◌, ℕ, ◌*◌, ◌/◌, ◌%◌, ◌<◌, List, length}
use Rattle.std.proofs.Common.{slice_index, arith, sym, ◌∙◌, ap}
use Rattle.flash_model.specs.Chip.{Chip, Reads}
use Rattle.flash_model.specs.Units.{IsSet}

-- A unit is set if its first byte isn't 0xFF.
pub set_of_reads : (chip : Chip) (at : ℕ) (bytes : List ℕ) → Reads chip at bytes
    → 0 < length bytes → slice_index bytes 0 ≢ 0xff → IsSet chip at
set_of_reads chip at bytes reads some other = record {
  not_erased = λ erased.
      other (sym (reads.each at 0 (omega arith) some) ∙ erased.each at (omega arith) (omega arith));
}

-- A sector begins at a whole unit if the length of a sector is a multiple of 8.
pub aligned : (a e : ℕ) → 8 * (e / 8) ≡ e → a * e % 8 ≡ 0
aligned a e units =
    let is : a * e ≡ 8 * (a * (e / 8)) = ap (λ x. a * x) (sym units) ∙ omega arith in
    omega (arith, is)
