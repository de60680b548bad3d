-- Lemmas by which a text is split at its first separator.
use Rattle.std.proofs.Common.{◌≡◌, ℕ, ◌+◌, ◌-◌, ◌<◌, eqb, ltb, List, ◌∷◌, ◌++◌, length, get_or, take, drop, Option, Some, None, refl, sym, ap, ◌∙◌, inl, inr, arith}
use Rattle.std.specs.Prelude.{option_map, unwrap_or}
use Rattle.std.specs.List.{position, position_or_len}
use Rattle.std.proofs.lemmas.Bool.{cases_lt, lt-ltb, ltb-true, eqb-true, eqb-false}
use Rattle.std.proofs.lemmas.List.{length-take, get_or-take, take_all, take_rest}
use Rattle.std.proofs.lemmas.List.Elements.{recursion_from_All}
use Rattle.std.proofs.lemmas.List.Sums.{split_at_first, fails_before_first, passes_at_first}
use Rattle.std.proofs.lemmas.Option.{cond_some, none-some}
use Rattle.common.specs.Ascii.{LacksByte, cut}
use Rattle.common.proofs.AsciiLaws.{cut-found, cut-missing}

-- The first index of the separator, or the length.
abbrev place : ℕ → List ℕ → ℕ
place separator text = position_or_len (λ b. eqb b separator) text

LacksByte-take : (separator : ℕ) (text : List ℕ) → LacksByte separator (take (place separator text) text)
LacksByte-take separator text =
    let k = place separator text in
    recursion_from_All (λ b. b ≡ separator → ⊥) (take k text)
    (λ i d within.
    let before : i < k = omega (arith, length-take k text) in
    let fails = fails_before_first (λ b. eqb b separator) text i d before in
    rw (get_or-take k text i d before) (eqb-false (get_or text i d) separator fails))

-- The parts before and after the first separator.
cut-Some : (separator : ℕ) (text : List ℕ) (i : ℕ) → Some i ≡ position (λ b. eqb b separator) text
    → cut separator text ≡ (take i text, Some (drop (i + 1) text))
cut-Some separator text i found =
    let k = place separator text in
    let at = cond_some (ltb k (length text)) k i (sym found) in
    let within : k < length text = ltb-true k (length text) at.0 in
    let passes = passes_at_first (λ b. eqb b separator) text 0 within in
    let same : get_or text k 0 ≡ separator = eqb-true (get_or text k 0) separator passes in
    let split = split_at_first (λ b. eqb b separator) text 0 within in
    let parts : text ≡ take k text ++ separator ∷ drop (k + 1) text =
    split ∙ ap (λ (b : ℕ). take k text ++ b ∷ drop (k + 1) text) same in
    let found = cut-found separator (take k text) (drop (k + 1) text) (LacksByte-take separator text) in
    rw (← at.1) (ap (cut separator) parts ∙ found)

-- A text without a separator isn't split.
cut-None : (separator : ℕ) (text : List ℕ) → None ≡ position (λ b. eqb b separator) text
    → cut separator text ≡ (text, None)
cut-None separator text missing =
    elim (cases_lt (place separator text) (length text)) [
      | inl within ↦ absurd (none-some _ (rw (lt-ltb (place separator text) (length text) within) at missing))
      | inr past ↦
          let whole = take_all (place separator text) text past in
          cut-missing separator text (rw whole at (LacksByte-take separator text))
    ]

-- The part before the separator, and the part after it.
pub cut_before : (separator : ℕ) (text : List ℕ)
    → (cut separator text).0
    ≡ unwrap_or (option_map (λ i. take i text) (position (λ b. eqb b separator) text)) text
cut_before separator text =
    let found = position (λ b. eqb b separator) text in
    elim found
    as (λ o. o ≡ found → (cut separator text).0 ≡ unwrap_or (option_map (λ i. take i text) o) text) [
      | None ↦ λ missing. ap (λ (p : List ℕ × Option (List ℕ)). p.0) (cut-None separator text missing)
      | Some i ↦ λ there. ap (λ (p : List ℕ × Option (List ℕ)). p.0) (cut-Some separator text i there)
    ] refl

-- The text after an index.
abbrev behind : List ℕ → ℕ → List ℕ
behind text i = take (length text - (i + 1)) (drop (i + 1) text)

pub cut_after : (separator : ℕ) (text : List ℕ)
    → (cut separator text).1
    ≡ option_map (λ i. take (length text - (i + 1)) (drop (i + 1) text)) (position (λ b. eqb b separator) text)
cut_after separator text =
    let found = position (λ b. eqb b separator) text in
    elim found as (λ o. o ≡ found → (cut separator text).1 ≡ option_map (behind text) o) [
      | None ↦ λ missing. ap (λ (p : List ℕ × Option (List ℕ)). p.1) (cut-None separator text missing)
      | Some i ↦ λ there.
          let parts = cut-Some separator text i there in
          rw (take_rest text (i + 1)) (ap (λ (p : List ℕ × Option (List ℕ)). p.1) parts)
    ] refl
