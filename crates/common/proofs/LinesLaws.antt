-- Lemmas about texts and their lines: lines that are joined are split again.
use Rattle.std.proofs.Common.{◌≡◌, ◌≢◌, ℕ, zero, suc, ◌<◌, List, [], ◌∷◌, ◌++◌, take, length, Option, Some, None, refl, ap, ◌∙◌, append_assoc, inl, inr, arith}
use Rattle.std.specs.List.{AllByRecursion}
use Rattle.std.specs.Prelude.{unwrap_or}
use Rattle.std.specs.Option.{option_map_or}
use Rattle.std.proofs.lemmas.Bool.Decides.{eqb_tells}
use Rattle.std.proofs.lemmas.Bool.{ne_eqb}
use Rattle.std.proofs.lemmas.List.Concat.{flat_map-cons}
use Rattle.common.specs.Ascii.{LacksByte, cut}
use Rattle.common.specs.Lines.{with_byte, lines_of, text_of_lines}

-- No line has a line feed.
abbrev pub AreLines : List (List ℕ) → Type 0
AreLines lines = AllByRecursion (LacksByte 10) lines

AreLines-with_byte : (b : ℕ) (lines : List (List ℕ)) → b ≢ 10 → AreLines lines → AreLines (with_byte b lines)
AreLines-with_byte b [] other lack = ((other, tt), tt)
AreLines-with_byte b (line ∷ lines) other lack = ((other, lack.0), lack.1)

pub AreLines-lines_of : (bytes : List ℕ) → AreLines (lines_of bytes)
AreLines-lines_of [] = tt
AreLines-lines_of (b ∷ bs) = elim (eqb_tells b 10) [
  | inl feed ↦ rw feed.0 (tt, AreLines-lines_of bs)
  | inr other ↦ rw other.0 (AreLines-with_byte b (lines_of bs) other.1 (AreLines-lines_of bs))
]

pub AreLines-take : (n : ℕ) (lines : List (List ℕ)) → AreLines lines → AreLines (take n lines)
AreLines-take zero lines lack = tt
AreLines-take (suc n) [] lack = tt
AreLines-take (suc n) (line ∷ lines) lack = (lack.0, AreLines-take n lines lack.1)

-- The lines of a line, a line feed and more bytes.
lines_of-line : (line more : List ℕ) → LacksByte 10 line → lines_of (line ++ 10 ∷ more) ≡ line ∷ lines_of more
lines_of-line [] more lack = refl
lines_of-line (b ∷ bs) more lack = rw (ne_eqb b 10 lack.0, lines_of-line bs more lack.1) refl

pub lines_of-text_of_lines : (lines : List (List ℕ)) (more : List ℕ) → AreLines lines
    → lines_of (text_of_lines lines ++ more) ≡ lines ++ lines_of more
lines_of-text_of_lines [] more lack = refl
lines_of-text_of_lines (line ∷ lines) more lack =
    let regrouped : text_of_lines (line ∷ lines) ++ more ≡ line ++ 10 ∷ (text_of_lines lines ++ more) =
    ap (λ (t : List ℕ). t ++ more) (flat_map-cons (λ l. l ++ 10 ∷ []) line lines) ∙ simp append_assoc in
    let others = lines_of-text_of_lines lines more lack.1 in
    ap lines_of regrouped ∙ lines_of-line line (text_of_lines lines ++ more) lack.0
    ∙ ap (λ (ls : List (List ℕ)). line ∷ ls) others

-- The lines of a text that isn't empty are its first line and the lines of the rest.
pub lines_of-cut : (b : ℕ) (bs : List ℕ)
    → lines_of (b ∷ bs) ≡ (cut 10 (b ∷ bs)).0 ∷ option_map_or lines_of (cut 10 (b ∷ bs)).1 []
unfolding cut
lines_of-cut b [] = elim (eqb_tells b 10) [ inl feed ↦ rw feed.0 refl | inr other ↦ rw other.0 refl ]
lines_of-cut b (c ∷ cs) = elim (eqb_tells b 10) [
  | inl feed ↦ rw feed.0 refl
  | inr other ↦ rw other.0 (ap (with_byte b) (lines_of-cut c cs))
]

lines_of-after : (after : Option (List ℕ)) → option_map_or lines_of after [] ≡ lines_of (unwrap_or after [])
lines_of-after None = refl
lines_of-after (Some rest) = refl

-- The same, with an empty rest if there is no line feed.
pub lines_of-first : (text : List ℕ) → 0 < length text
    → lines_of text ≡ (cut 10 text).0 ∷ lines_of (unwrap_or (cut 10 text).1 [])
lines_of-first [] some = absurd (omega arith)
lines_of-first (b ∷ bs) some =
    let after = lines_of-after (cut 10 (b ∷ bs)).1 in
    lines_of-cut b bs ∙ ap (λ (ls : List (List ℕ)). (cut 10 (b ∷ bs)).0 ∷ ls) after

-- The text after the first line is shorter.
pub length-after_cut : (text : List ℕ) → 0 < length text → length (unwrap_or (cut 10 text).1 []) < length text
unfolding cut
length-after_cut [] some = absurd (omega arith)
length-after_cut (b ∷ []) some = elim (eqb_tells b 10) [
  | inl feed ↦ rw feed.0 (omega arith)
  | inr other ↦ rw other.0 (omega arith)
]
length-after_cut (b ∷ c ∷ cs) some = elim (eqb_tells b 10) [
  | inl feed ↦ rw feed.0 (omega arith)
  | inr other ↦ rw other.0 (omega (arith, length-after_cut (c ∷ cs) (omega arith)))
]
