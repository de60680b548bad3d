-- The lines of a meaning, as a constant has them, are joined as its entry has them.
use Rattle.std.proofs.Common.{◌≡◌, ℕ, ◌++◌, List, [], ◌∷◌, ap, map, refl, sym}
use Rattle.std.proofs.lemmas.List.Folds.{flat_map-map}
use Rattle.std.specs.Borrow.{Bor}
use Rattle.std.specs.List.{join_by}

pub joined_lines : (between : List ℕ) (lines : List (Bor (List ℕ)))
    → join_by (λ line. line.now) between lines ≡ join_by (λ line. line) between (map (λ line. line.now) lines)
joined_lines between [] = refl
joined_lines between (line ∷ lines) =
    ap (λ more. line.now ++ more) (sym (flat_map-map (λ one. between ++ one) (λ it. it.now) lines))
