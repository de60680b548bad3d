-- A loop over a list shows a property of the element at each place.
use Rattle.std.proofs.Common.{◌≡◌, ℕ, ◌+◌, ◌<◌, ◌≤◌, List, Option, Some, length, get_or, inl, inr, ap, arith, subst, sym, slice_get}
use Rattle.std.specs.Prelude.{IfSome}
use Rattle.std.proofs.lemmas.Bool.{cases_lt}
use Rattle.std.proofs.lemmas.Option.{slice_get_past, slice_get_read}
use borrow.Author.Count.{below_more}

module _ {X : Type 0} (xs : List X) (Holds : ℕ → X → Type 0) where
  -- The element at a place has the property.
  abbrev HoldsAt : ℕ → Type 0
  HoldsAt j = IfSome (slice_get xs j) (Holds j)

  -- The loop reads a list of the same elements.
  read : (ys : List X) (n : ℕ) (x : X) → ys ≡ xs → n < length ys → x ≡ get_or ys n x → slice_get xs n ≡ Some x
  read ys n x same within is = slice_get_read xs (length ys) n x (ap length same) within (rw same at is)

  -- One more element has it.
  pub holds_one_more : (ys : List X) (n : ℕ) (x : X) → ys ≡ xs → n < length ys → x ≡ get_or ys n x
      → ((j : ℕ) → j < n → HoldsAt j) → Holds n x → (j : ℕ) → j < n + 1 → HoldsAt j
  holds_one_more ys n x same within is before here =
      below_more HoldsAt n before
      (subst (λ (found : Option X). IfSome found (Holds n)) (sym (read ys n x same within is)) here)

  -- There is no element beyond the last one.
  pub holds_everywhere : (ys : List X) (n : ℕ) → ys ≡ xs → length ys ≤ n → ((j : ℕ) → j < n → HoldsAt j)
      → (j : ℕ) → HoldsAt j
  holds_everywhere ys n same past before j = elim (cases_lt j n) [
    | inl within ↦ before j within
    | inr beyond ↦
        subst (λ (found : Option X). IfSome found (Holds j))
        (sym (slice_get_past xs j (omega (arith, ap length same)))) tt
  ]

  -- If the element at a place has the property, that is so of the one that the loop reads there.
  pub holds_here : (ys : List X) (n : ℕ) (x : X) → ys ≡ xs → n < length ys → x ≡ get_or ys n x
      → HoldsAt n → Holds n x
  holds_here ys n x same within is here =
      subst (λ (found : Option X). IfSome found (Holds n)) (read ys n x same within is) here
