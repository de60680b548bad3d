use Rattle.std.proofs.Common.{◌≡◌, ◌∙◌, ap, map, refl, rules}
use Rattle.std.proofs.lemmas.Map.Iter.{iter_end}
use Rattle.std.specs.Map.Iter.{deref_pair}
use Rattle.inspecting.proofs.RowsLaws.{sorted-rows}
use Rattle.inspecting.specs.Rows.{entry_row}
use Rattle.inspecting.specs.SummaryJson.{row_json}
use Rattle.inspecting.proofs.fleet.row_json.row_values.Goals as goal

-- There are the objects of all rows.
pub returns : goal.returns
returns c =
    let all : map deref_pair c.loop-key.yielded ≡ c.args.rows.now.entries = search (rules, iter_end) in (
      map entry_row c.args.rows.now.entries,
      record { are = refl; sorted = sorted-rows c.args.rows.now.entries c.iter-key-items.ensures.ordered },
      c.loop-key.invariant ∙ ap (λ entries. map row_json (map entry_row entries)) all,
    )
