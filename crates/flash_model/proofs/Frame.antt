-- Lemmas about what a write leaves outside its range.
use Rattle.std.proofs.Common.{◌≡◌, ◌≢◌, ◌⊎◌, ℕ, ◌+◌, ◌*◌, ◌<◌, ◌≤◌, List, length}
use Rattle.std.proofs.Common.{refl, ◌∙◌, ap, arith, inl, inr, ⊎_elim}
use Rattle.std.proofs.lemmas.Bool.{cases_lt}
use Rattle.flash_model.specs.Chip.{Chip, Reads, SameOutside, SameSector, SectorIs}

-- Without a write nothing changes.
pub same_outside_refl : (at n : ℕ) (chip : Chip) → SameOutside at n chip chip
same_outside_refl at n chip = record {
  sector_size = refl;
  sectors = refl;
  fixed = refl;
  size = refl;
  before = λ k low. refl;
  after = λ k high. refl;
}

-- Two writes of the same range leave all bytes outside it unchanged.
pub same_outside_trans : (at n : ℕ) (old mid new : Chip)
    → SameOutside at n old mid → SameOutside at n mid new → SameOutside at n old new
same_outside_trans at n old mid new first second = record {
  sector_size = second.sector_size ∙ first.sector_size;
  sectors = second.sectors ∙ first.sectors;
  fixed = second.fixed ∙ first.fixed;
  size = second.size ∙ first.size;
  before = λ k low. second.before k low ∙ first.before k low;
  after = λ k high. second.after k high ∙ first.after k high;
}

-- A write leaves all bytes outside a wider range unchanged.
pub same_outside_wider : (at n from m : ℕ) (old new : Chip)
    → SameOutside at n old new → from ≤ at → at + n ≤ from + m → SameOutside from m old new
same_outside_wider at n from m old new same low high = record {
  sector_size = same.sector_size;
  sectors = same.sectors;
  fixed = same.fixed;
  size = same.size;
  before = λ k below. same.before k (omega arith);
  after = λ k above. same.after k (omega arith);
}

-- Writes of two adjacent ranges leave all bytes outside both unchanged.
pub same_outside_joined : (at n m : ℕ) (old mid new : Chip)
    → SameOutside at n old mid → SameOutside (at + n) m mid new → SameOutside at (n + m) old new
same_outside_joined at n m old mid new first second = same_outside_trans at (n + m) old mid new
    (same_outside_wider at n at (n + m) old mid first (omega arith) (omega arith))
    (same_outside_wider (at + n) m at (n + m) mid new second (omega arith) (omega arith))

-- Bytes beside the written range read as before.
pub reads_kept : (at from m : ℕ) (bytes : List ℕ) (old new : Chip)
    → Reads old at bytes → SameOutside from m old new
    → (at + length bytes ≤ from) ⊎ (from + m ≤ at) → Reads new at bytes
reads_kept at from m bytes old new reads same apart = record {
  each = λ k i is below. ⊎_elim
      (λ (low : at + length bytes ≤ from). same.before k (omega arith) ∙ reads.each k i is below)
      (λ (high : from + m ≤ at). same.after k (omega arith) ∙ reads.each k i is below)
      apart;
}

-- A sector ends before a later one begins.
pub product_le : (a b e : ℕ) → a < b → a * e + e ≤ b * e
product_le a b e lt = grind arith

-- Two different sectors don't overlap.
pub products_apart : (a b e : ℕ) → a ≢ b → (a * e + e ≤ b * e) ⊎ (b * e + e ≤ a * e)
products_apart a b e other = ⊎_elim
    (λ lt. inl (product_le a b e lt)) (λ le. inr (product_le b a e (omega arith))) (cases_lt a b)

-- Sectors begin in the order of their numbers.
pub mul_le : (a b e : ℕ) → a ≤ b → a * e ≤ b * e
mul_le a b e le = grind arith

-- A sector other than the written one is unchanged.
pub same_sector : (s t e n : ℕ) (old new : Chip) → SameOutside (t * e) n old new
    → e ≡ old.sector_size → n ≡ old.sector_size → s ≢ t → SameSector s old new
same_sector s t e n old new same size whole other =
    let place : t * e ≡ t * old.sector_size = ap (λ x. t * x) size in
    record {
      each = λ k o is below. grind (arith, same.before, same.after, products_apart s t old.sector_size other, place);
    }

-- An unchanged sector has the same contents.
pub sector_kept : (s : ℕ) (contents : ℕ → ℕ) (old new : Chip) → SectorIs old s contents
    → SameSector s old new → new.sector_size ≡ old.sector_size → SectorIs new s contents
sector_kept s contents old new was same size =
    let place : s * new.sector_size ≡ s * old.sector_size = ap (λ x. s * x) size in
    record {
      each = λ k o is below.
          let at : k ≡ s * old.sector_size + o = is ∙ ap (λ x. x + o) place in
          same.each k o at (omega arith) ∙ was.each k o at (omega arith);
    }
