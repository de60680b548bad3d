-- Lemmas by which printed things, one line for each, are read as their lines.
use Rattle.std.proofs.Common.{◌≡◌, ℕ, List, [], ◌∷◌, ◌++◌, map, refl, sym, ap, ◌∙◌}
use Rattle.std.specs.List.{AllByRecursion, AllZip}
use Rattle.std.proofs.lemmas.List.{append-nil}
use Rattle.std.proofs.lemmas.List.Concat.{flat_map-cons}
use Rattle.common.specs.Ascii.{LacksByte}
use Rattle.common.specs.Lines.{lines_of, printed_lines, text_of_lines}
use Rattle.common.proofs.LinesLaws.{AreLines, lines_of-text_of_lines}

module _ {L : Type 0} (text_of : L → List ℕ) (Says : List ℕ → L → Type 0) (Fits : L → Type 0) (says : (said : L) → Fits said → Says (text_of said) said) (lack : (said : L) → Fits said → LacksByte 10 (text_of said)) where
  -- Printed lines are the texts of the lines, each followed by a line feed.
  printed : (lines : List L) → printed_lines text_of lines ≡ text_of_lines (map text_of lines)
  printed [] = refl
  printed (said ∷ lines) = flat_map-cons (λ l. text_of l ++ 10 ∷ []) said lines ∙ ap (λ (t : List ℕ). (text_of said ++ 10 ∷ []) ++ t) (printed lines) ∙ sym (flat_map-cons (λ l. l ++ 10 ∷ []) (text_of said) (map text_of lines))

  AreLines-map : (lines : List L) → AllByRecursion Fits lines → AreLines (map text_of lines)
  AreLines-map [] fit = tt
  AreLines-map (said ∷ lines) fit = (lack said fit.0, AreLines-map lines fit.1)

  each_says : (lines : List L) → AllByRecursion Fits lines → AllZip Says (map text_of lines) lines
  each_says [] fit = tt
  each_says (said ∷ lines) fit = (says said fit.0, each_says lines fit.1)

  -- The lines of a printed text say the lines that were printed.
  pub lines_of-printed : (lines : List L) → AllByRecursion Fits lines → AllZip Says (lines_of (printed_lines text_of lines)) lines
  lines_of-printed lines fit =
      let joined = ap lines_of (sym (append-nil (text_of_lines (map text_of lines)))) ∙ lines_of-text_of_lines (map text_of lines) [] (AreLines-map lines fit) ∙ append-nil (map text_of lines) in
      rw (printed lines, joined) (each_says lines fit)
