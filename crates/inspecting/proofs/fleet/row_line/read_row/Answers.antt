use Rattle.std.proofs.Common.{◌∷◌, ◌++◌, ◌∙◌, ap, decimal, rules, sym}
use Rattle.common.proofs.AsciiLaws.{cut-parts}
use Rattle.inspecting.proofs.fleet.row_line.read_row.Goals as goal

-- The fields are those of the line.
pub returns : goal.returns
returns c =
    let first = c.in_ok-first.first.now in
    let one = cut-parts 32 c.args.line.now c.in-Some.rest.now (sym (rw c.in-Some.is at c.cut.ensures.after)) in
    let two = cut-parts 32 c.in-Some.rest.now c.in-Some-key.key.now (sym (rw c.in-Some-key.is at c.cut-2.ensures.after)) in (
      record { some = search rules; few = search rules; first = c.in_ok-first.ensures.1; key = c.in_ok-key.ensures.1 },
      one ∙ ap (λ t. t ++ 32 ∷ c.in-Some.rest.now) (sym c.cut.ensures.before ∙ c.in_ok-count.ensures)
          ∙ ap (λ t. decimal c.in_ok-count.count ++ 32 ∷ t) (two ∙ ap (λ t. t ++ 32 ∷ c.in-Some-key.key.now) (sym c.cut-2.ensures.before ∙ c.in_ok-first.ensures.0)
          ∙ ap (λ t. first ++ 32 ∷ t) c.in_ok-key.ensures.0),
    )
