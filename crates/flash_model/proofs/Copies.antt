-- Lemmas about copies of ranges that are made piece by piece.
use Rattle.std.proofs.Common.{◌≡◌, ◌≢◌, ◌⊎◌, ℕ, ◌+◌, ◌-◌, ◌*◌, ◌≤◌, List, length}
use Rattle.std.proofs.Common.{sym, ◌∙◌, ap, subst, arith}
use Rattle.flash_model.specs.Chip.{Chip, Reads, IsCopy, SameOutside, SectorIs}
use Rattle.flash_model.proofs.Frame.{products_apart}

-- Bytes that were read at one place and written at another are a copy.
pub copy_of_reads : (from to n : ℕ) (old new : Chip) (bytes : List ℕ)
    → Reads old from bytes → Reads new to bytes → n ≡ length bytes → IsCopy from to n old new
copy_of_reads from to n old new bytes read written is = record {
  each = λ k j low high e.
      written.each k (k - to) (omega arith) (omega arith) ∙ sym (read.each j (k - to) (omega arith) (omega arith));
}

-- A copy grows by n bytes.
pub copied_more : (from to done n all : ℕ) (first mid last : Chip)
    → IsCopy from to done first mid → IsCopy (from + done) (to + done) n mid last
    → SameOutside to done first mid → SameOutside (to + done) n mid last
    → (from + done + n ≤ to) ⊎ (to + done ≤ from) ⊎ (to + done ≤ from + done)
    → all ≡ done + n → IsCopy from to all first last
copied_more from to done n all first mid last so_far here kept same apart is = record {
  each = λ k j low high e.
      grind (arith, so_far.each, here.each, kept.before, kept.after, same.before, same.after);
}

-- A copy of the old bytes, made after another range was written.
pub copy_after : (from to n m at size : ℕ) (old mid new : Chip)
    → IsCopy from to n mid new → SameOutside at size old mid
    → (from + n ≤ at) ⊎ (at + size ≤ from) → m ≡ n → IsCopy from to m old new
copy_after from to n m at size old mid new copied same apart is = record {
  each = λ k j low high e. grind (arith, copied.each, same.before, same.after);
}

-- A sector was copied to another one, which was erased first.
pub copy_after_erase : (a b e size m : ℕ) (old mid new : Chip)
    → IsCopy (a * size) (b * size) m mid new → SameOutside (b * e) e old mid
    → a ≢ b → size ≡ e → m ≡ size → IsCopy (a * e) (b * e) e old new
copy_after_erase a b e size m old mid new copied same other is all =
    copy_after (a * e) (b * e) m e (b * e) e old mid new
    (subst (λ x. IsCopy (a * x) (b * x) m mid new) is copied) same
    (grind (arith, products_apart a b e other)) (omega arith)

-- A sector that another one was copied to has the contents of that one.
pub sector_copied : (a b e n : ℕ) (contents : ℕ → ℕ) (old new : Chip) → SectorIs old a contents
    → IsCopy (a * e) (b * e) n old new → e ≡ old.sector_size → n ≡ old.sector_size
    → new.sector_size ≡ old.sector_size → SectorIs new b contents
sector_copied a b e n contents old new was copied is whole size =
    let from_is : a * e ≡ a * old.sector_size = ap (λ x. a * x) is in
    let to_is : b * e ≡ b * old.sector_size = ap (λ x. b * x) is in
    let new_is : b * new.sector_size ≡ b * old.sector_size = ap (λ x. b * x) size in
    record {
      each = λ k o eq below.
          copied.each k (a * old.sector_size + o) (omega arith) (omega arith) (omega arith)
          ∙ was.each (a * old.sector_size + o) o (omega arith) (omega arith);
    }
