-- Floors raised one by one to the counters of a combination.
use Rattle.std.proofs.Common.{◌≡◌, ◌≢◌, ℕ, ◌+◌, ◌<◌, List, length, Some, max, set, get_or, slice_get, slice_index}
use Rattle.std.proofs.Common.{sym, ◌∙◌, ap, arith, ⊎_elim, length-set, get_or-set_same, get_or-set_other, unwrap_or}
use Rattle.std.proofs.lemmas.Bool.{cases_eq}
use Rattle.std.proofs.lemmas.Option.{unwrap_or-slice_get}
use Rattle.common.specs.Masks.{is_member}
use Rattle.reports.specs.Combination.{entry_in}
use Rattle.reports.specs.declared.table.Image.{Image}
use Rattle.flash_contents.specs.Reading.{AreRaisedBy}

module _ (images : List Image) (mask n v : ℕ) (image : Image) (old before : List ℕ) (lt : n < length before)
    (at : image ≡ get_or images n image)
    (is : v ≡ max (slice_index old n) (entry_in image (is_member mask n)).counter)
    (was : AreRaisedBy images mask n old before) where
  -- The place that is written.
  here_is : (i : ℕ) (row : Image) → i ≡ n → slice_get images i ≡ Some row
      → slice_index (set before n v) i ≡ max (slice_index old i) (entry_in row (is_member mask i)).counter
  here_is i row here found =
      let same : image ≡ row =
      at ∙ ap (λ k. get_or images k image) (sym here) ∙ sym (unwrap_or-slice_get images i image)
      ∙ ap (λ o. unwrap_or o image) found in
      ap (λ k. slice_index (set before n v) k) here ∙ get_or-set_same before n v 0 lt ∙ is
      ∙ ap (λ (r : Image). max (slice_index old n) (entry_in r (is_member mask n)).counter) same
      ∙ ap (λ k. max (slice_index old k) (entry_in row (is_member mask k)).counter) (sym here)

  pub raised_next : AreRaisedBy images mask (n + 1) old (set before n v)
  raised_next = record {
    size = length-set before n v ∙ was.size;
    each = λ i row below found. ⊎_elim
        (λ (here : i ≡ n). here_is i row here found)
        (λ (away : i ≢ n). get_or-set_other before n i v 0 away ∙ was.each i row (omega (arith, below, away)) found)
        (cases_eq i n);
    rest = λ i past.
        let away : i ≢ n = omega (arith, past) in
        get_or-set_other before n i v 0 away ∙ was.rest i (omega (arith, past));
  }
