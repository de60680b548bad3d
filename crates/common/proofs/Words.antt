-- A case split: a word is the sought one or another.
use Rattle.std.proofs.Common.{◌≡◌, true, false, List, ℕ, inl, inr, subst, sym}
use Rattle.std.specs.Str.{bytes_eq}
use Rattle.std.proofs.lemmas.Bool.{cases_Bool}
use Rattle.std.proofs.lemmas.Slice.Eq.{bytes_eq-Decides}

-- A fact of a word, shown for the sought word and for any other one.
pub on_word : (word sought : List ℕ) (P : List ℕ → Type 0) → (bytes_eq word sought ≡ true → P sought)
    → (bytes_eq word sought ≡ false → P word) → P word
on_word word sought P same other =
    elim (cases_Bool (bytes_eq word sought)) [
      | inl is ↦ subst P (sym ((bytes_eq-Decides word sought).0 is)) (same is)
      | inr isnt ↦ other isnt
    ]
