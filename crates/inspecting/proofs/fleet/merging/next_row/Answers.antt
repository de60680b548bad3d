use Rattle.std.proofs.Common.{◌++◌, ◌∷◌, [], ◌∙◌, ap, sym}
use Rattle.inspecting.proofs.CutLaws.{cut-fewer, cut-some}
use Rattle.inspecting.proofs.fleet.merging.next_row.Goals as goal

-- The line is that of a row, and its key is above the last one.
pub returns-in-Less : goal.returns-in-Less
returns-in-Less c =
    let line = c.cut.result.0.now in
    let after = c.in-Some.after.now in
    let split = cut-some c.args.text.now line after c.cut.ensures.before (rw c.in-Some.is at c.cut.ensures.after) in
    record {
      fits = c.in-Some-read_row.ensures.0;
      above = sym (rw c.as_bytes.ensures.value at c.in-Less.ensures);
      split = sym split ∙ ap (λ t. (t ++ 10 ∷ []) ++ after) c.in-Some-read_row.ensures.1;
      fewer = cut-fewer c.args.text.now line after split;
    }
