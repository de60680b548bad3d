use Rattle.std.proofs.Common.{◌∷◌, [], ◌++◌, ◌∙◌, ap, subst}
use Rattle.inspecting.proofs.ResultLaws.{OnOk-then}
use Rattle.inspecting.proofs.RowsLaws.{IsTallied-more}
use Rattle.inspecting.specs.Key.{key_text}
use Rattle.inspecting.specs.Rows.{IsTallied}
use Rattle.inspecting.specs.Summary.{once}
use Rattle.inspecting.proofs.fleet.summary.Summary.count.Goals as goal

-- The key has one more.
pub returns : goal.returns
returns c =
    let key = c.deref.ensures ∙ c.in-Ok.ensures.bytes ∙ ap (λ text. text ++ key_text c.args.key.now) c.clear.ensures.bytes in
    OnOk-then c.add_row.result (λ adds added was.
    subst (λ k. IsTallied (added ++ once c.args.name.now k ∷ []) c.add_row.new.rows) key (IsTallied-more added _ was adds)) c.add_row.ensures
