-- Lemmas about the parts of a text before and after its first line feed.
use Rattle.std.proofs.Common.{◌≡◌, ℕ, ◌<◌, List, [], ◌∷◌, ◌++◌, length, Option, Some, None, refl, ap, ◌∙◌, append_assoc, arith, inl, inr, subst, sym}
use Rattle.std.proofs.lemmas.List.{length-append}
use Rattle.std.proofs.lemmas.Bool.Decides.{eqb_tells}
use Rattle.common.specs.Ascii.{LacksByte, cut}

-- A text from its first line feed on, given the text after it.
abbrev pub from_feed : Option (List ℕ) → List ℕ
from_feed None = []
from_feed (Some rest) = 10 ∷ rest

pub cut-lacks : (text : List ℕ) → LacksByte 10 (cut 10 text).0
unfolding cut
cut-lacks [] = tt
cut-lacks (b ∷ bs) = elim (eqb_tells b 10) [
  | inl feed ↦ rw feed.0 tt
  | inr other ↦ rw other.0 (other.1, cut-lacks bs)
]

pub cut-parts : (text : List ℕ) → text ≡ (cut 10 text).0 ++ from_feed (cut 10 text).1
unfolding cut
cut-parts [] = refl
cut-parts (b ∷ bs) = elim (eqb_tells b 10) [
  | inl feed ↦ rw feed.0 (ap (λ head. head ∷ bs) feed.1)
  | inr other ↦ rw other.0 (ap (λ rest. b ∷ rest) (cut-parts bs))
]

-- A text without a line feed.
pub cut-none : (text part : List ℕ) → part ≡ (cut 10 text).0 → None ≡ (cut 10 text).1 → part ++ [] ≡ text
cut-none text part before none =
    ap (λ p. p ++ []) before ∙ sym (subst (λ o. text ≡ (cut 10 text).0 ++ from_feed o) (sym none) (cut-parts text))

-- A text with a line feed.
pub cut-some : (text part rest : List ℕ) → part ≡ (cut 10 text).0 → Some rest ≡ (cut 10 text).1 → (part ++ 10 ∷ []) ++ rest ≡ text
cut-some text part rest before some =
    append_assoc part (10 ∷ []) rest ∙ ap (λ p. p ++ 10 ∷ rest) before
    ∙ sym (subst (λ o. text ≡ (cut 10 text).0 ++ from_feed o) (sym some) (cut-parts text))

pub cut-fewer : (text part rest : List ℕ) → (part ++ 10 ∷ []) ++ rest ≡ text → length rest < length text
cut-fewer text part rest split =
    rw (← split, length-append (part ++ 10 ∷ []) rest, length-append part (10 ∷ [])) (omega arith)
