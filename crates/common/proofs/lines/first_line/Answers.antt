use Rattle.std.proofs.Common.{◌≡◌, ℕ, List, [], Option, Some, None, Bor, refl, ap, ◌∙◌}
use Rattle.std.specs.Prelude.{option_copied, unwrap_or}
use Rattle.common.proofs.LinesLaws.{lines_of-first, length-after_cut}
use Rattle.common.proofs.lines.first_line.Goals as goal

-- The contents of the reference that was found, or of the default.
now-unwrap_or : (found : Option (Bor (List ℕ))) (default : Bor (List ℕ)) → default.now ≡ []
    → (unwrap_or found default).now ≡ unwrap_or (option_copied found) []
now-unwrap_or None default empty = empty
now-unwrap_or (Some rest) default empty = refl

pub returns-clause-lines : goal.returns-clause-lines
returns-clause-lines c =
    let after = ap (λ (r : Bor (List ℕ)). r.now) c.unwrap_or.ensures ∙ now-unwrap_or c.cut.result.1 _ refl in
    rw (c.cut.ensures.before, after, c.cut.ensures.after) (lines_of-first c.args.text.now c.requires)

pub returns-clause-shorter : goal.returns-clause-shorter
returns-clause-shorter c =
    let after = ap (λ (r : Bor (List ℕ)). r.now) c.unwrap_or.ensures ∙ now-unwrap_or c.cut.result.1 _ refl in
    rw (after, c.cut.ensures.after) (length-after_cut c.args.text.now c.requires)
