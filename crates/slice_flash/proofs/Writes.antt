-- Lemmas about ranges that a pattern fills, and about erases as writes of such a pattern.
use Rattle.std.proofs.Common.{◌≡◌, ℕ, zero, suc, ◌+◌, ◌++◌, drop, take, ◌-◌, ◌*◌, ◌%◌, ◌<◌, ◌≤◌, List, [], ◌∷◌, length, replicate, slice_index, slice_range}
use Rattle.std.proofs.Common.{Ok, Err, refl, sym, ◌∙◌, ap, subst, arith}
use Rattle.std.specs.Result.{is_ok}
use borrow.Rule.Slice.PartMut.{Post-is}
use Rattle.std.proofs.Math.Nat.{mod-eq_of_lt}
use Rattle.std.proofs.lemmas.Bool.{false≢true}
use Rattle.std.proofs.lemmas.List.{get_or-replicate, length-replicate}
use Rattle.flash_model.specs.declared.error.FlashError.{FlashError}
use Rattle.flash_model.specs.Chip.{Chip, SameOutside}
use Rattle.flash_model.specs.Calls.{Erases, Programs}
use Rattle.flash_model.specs.Torn.{replaced, with_pattern}
use Rattle.flash_model.proofs.Frame.{product_le}
use Rattle.flash_model.proofs.Ranges.{length_range}
use Rattle.flash_model.proofs.TornBytes.{length-with_pattern, with_pattern_each}
use Rattle.slice_flash.specs.declared.table.Left.{Left}
use Rattle.slice_flash.specs.declared.table.Left.TheVariants.{Keep, Done, Bytes}
use Rattle.slice_flash.specs.Rows.{torn_bytes}
use Rattle.slice_flash.specs.SliceFlash.{Slice, Writes, done, erased}

-- A pattern that is as long as the range.
pub pattern_once : (pattern old : List ℕ) → length pattern ≡ length old → pattern ≡ with_pattern pattern old
pattern_once [] [] same = refl
pattern_once [] (o ∷ os) same = absurd (omega (arith, same))
pattern_once (b ∷ bs) old same = with_pattern_each (b ∷ bs) old (b ∷ bs) (omega arith) same (λ k below.
    let within : k < length (b ∷ bs) = omega (arith, below, same) in
    ap (λ i. slice_index (b ∷ bs) i) (sym (mod-eq_of_lt within)))

-- A pattern of one byte.
pub pattern_of_one : (b n : ℕ) (old : List ℕ) → length old ≡ n → replicate n b ≡ with_pattern (b ∷ []) old
pattern_of_one b n old long =
    let all : List ℕ = replicate n b in
    with_pattern_each (b ∷ []) old all (omega arith) (length-replicate {A = ℕ} n b ∙ sym long) (λ k below.
    let place : 0 ≡ k % length (b ∷ []) = omega arith in
    get_or-replicate n k b 0 (omega (arith, below, long)) ∙ ap (λ i. slice_index (b ∷ []) i) place)

-- The pattern of an erase.
pub blank_pattern : (sector sectors n : ℕ) (bytes : List ℕ) → sector < sectors → length bytes ≡ sectors * n
    → replicate n 255 ≡ with_pattern (255 ∷ []) (slice_range bytes (sector * n) (sector * n + n))
blank_pattern sector sectors n bytes below whole =
    let long = length_range bytes (sector * n) (sector * n + n) in
    pattern_of_one 255 n _ (long ∙ omega (arith, whole, product_le sector sectors n below))

-- A completed erase, which is counted after its write.
pub erase_done : (sector m : ℕ) (old new : Chip) → m ≡ new.erases + 1 → new.journaled ≤ old.journaled + 12
    → Programs (sector * old.sector_size) (replicate old.sector_size 255) old new {T = Unit {0}} (Ok tt)
    → Erases sector old (record new { erases = m }) {T = Unit {0}} (Ok tt)
erase_done sector m old new counted journal write =
    let outside = write.outside in
    let long = length-replicate {A = ℕ} old.sector_size 255 in
    record {
      outside = record {
        sector_size = outside.sector_size;
        sectors = outside.sectors;
        fixed = outside.fixed;
        size = outside.size;
        before = outside.before;
        after = λ k high. outside.after k (omega (arith, high, long));
      };
      ok = record {
        each = λ k low high.
            write.ok.each k (k - sector * old.sector_size) (omega arith) (omega (arith, long))
            ∙ get_or-replicate old.sector_size (k - sector * old.sector_size) 255 0 (omega arith);
      };
      on = write.on;
      erases = counted ∙ ap (λ e. e + 1) write.erases;
      uncounted = tt;
      journal = journal;
      ends = record {
        asleep = λ off. absurd (false≢true (sym off ∙ write.on));
        uncut = record { on = write.ends.uncut.on; cuts = write.ends.uncut.cuts };
        cut = λ is. absurd (false≢true (sym (ap is_ok is)));
        off = λ is. absurd (false≢true (sym (ap is_ok is)));
      };
    }

-- An erase that was interrupted or refused.
pub erase_failed : (sector : ℕ) (error : FlashError) (old new : Chip) → new.journaled ≤ old.journaled + 12
    → Programs (sector * old.sector_size) (replicate old.sector_size 255) old new {T = Unit {0}} (Err error)
    → Erases sector old new {T = Unit {0}} (Err error)
erase_failed sector error old new journal write = record {
  outside = subst (λ m. SameOutside (sector * old.sector_size) m old new)
      (length-replicate {A = ℕ} old.sector_size 255) write.outside;
  ok = tt;
  on = tt;
  erases = tt;
  uncounted = write.erases;
  journal = journal;
  ends = write.ends;
}

-- A completed erase, by the table.
pub erase_is_done : (at : ℕ) (range : List ℕ) (old mid new : Slice)
    → Writes (Ok tt) at range (done at range old) old mid
    → new ≡ record mid { chip = record (mid.chip) { erases = mid.chip.erases + 1 } }
    → Writes (Ok tt) at range (erased at range old) old new
erase_is_done at range old mid new write counted = record {
  off = λ off. absurd (false≢true (sym (ap is_ok (write.off off).0)));
  on = λ on none.
      let more : Slice → Slice = λ s. record s { chip = record (s.chip) { erases = s.chip.erases + 1 } } in
      (refl, counted ∙ ap more (write.on on none).1);
  cut = λ left on some. absurd (false≢true (sym (ap is_ok (write.cut left on some).0)));
}

-- An erase that wasn't completed, by the table.
pub erase_is_failed : (at : ℕ) (range : List ℕ) (error : FlashError) (old new : Slice)
    → Writes (Err error) at range (done at range old) old new
    → Writes (Err error) at range (erased at range old) old new
erase_is_failed at range error old new write = record {
  off = write.off;
  on = λ on none. absurd (false≢true (write.on on none).0);
  cut = write.cut;
}

-- ---- a range that was borrowed and is put back

-- After a range was borrowed, the bytes are the old ones with the range's new contents.
pub put_back : (at n : ℕ) (bytes new range : List ℕ) → new ≡ range → length range ≡ n
    → take at bytes ++ (new ++ drop (at + n - at) (drop at bytes)) ≡ replaced at range bytes
put_back at n bytes new range is long =
    let end : at + n ≡ at + length range = ap (λ m. at + m) (sym long) in
    ap (λ (r : List ℕ). take at bytes ++ (r ++ drop (at + n - at) (drop at bytes))) is
    ∙ ap (λ (rest : List ℕ). take at bytes ++ (range ++ rest))
    (Post-is at (at + n) bytes (omega arith) ∙ ap (λ m. drop m bytes) end)

bytes_dropped : (n : ℕ) (all : List ℕ) → ((k : ℕ) → slice_index all k < 256) → (k : ℕ) → slice_index (drop n all) k < 256
bytes_dropped zero all below k = below k
bytes_dropped (suc n) [] below k = below k
bytes_dropped (suc n) (b ∷ bs) below k = bytes_dropped n bs (λ j. below (suc j)) k

bytes_taken : (n : ℕ) (all : List ℕ) → ((k : ℕ) → slice_index all k < 256) → (k : ℕ) → slice_index (take n all) k < 256
bytes_taken zero all below k = omega arith
bytes_taken (suc n) [] below k = below k
bytes_taken (suc n) (b ∷ bs) below zero = below zero
bytes_taken (suc n) (b ∷ bs) below (suc k) = bytes_taken n bs (λ j. below (suc j)) k

bytes_joined : (xs ys : List ℕ) → ((k : ℕ) → slice_index xs k < 256) → ((k : ℕ) → slice_index ys k < 256)
    → (k : ℕ) → slice_index (xs ++ ys) k < 256
bytes_joined [] ys first second k = second k
bytes_joined (x ∷ xs) ys first second zero = first zero
bytes_joined (x ∷ xs) ys first second (suc k) = bytes_joined xs ys (λ j. first (suc j)) second k

-- After a range was borrowed, each element is still below 256.
pub bytes_back : (at n : ℕ) (bytes new : List ℕ) → ((k : ℕ) → slice_index bytes k < 256)
    → ((k : ℕ) → slice_index new k < 256) → (k : ℕ)
    → slice_index (take at bytes ++ (new ++ drop n (drop at bytes))) k < 256
bytes_back at n bytes new below also =
    bytes_joined (take at bytes) (new ++ drop n (drop at bytes)) (bytes_taken at bytes below)
    (bytes_joined new (drop n (drop at bytes)) also (bytes_dropped n (drop at bytes) (bytes_dropped at bytes below)))

-- An interrupted write leaves as many bytes as its range has.
pub length-torn : (left : Left) (old done : List ℕ) {n : ℕ} → length old ≡ n → length done ≡ n
    → length (torn_bytes left old done) ≡ n
length-torn Keep old done first second = first
length-torn Done old done first second = second
length-torn (Bytes pattern) old done first second = length-with_pattern pattern.now old ∙ first
