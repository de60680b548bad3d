use Rattle.std.proofs.Common.{◌≡◌, map}
use Rattle.std.specs.Map.Iter.{deref_pair}
use Rattle.serde_json.specs.View.{view}
use Rattle.inspecting.specs.Rows.{entry_row}
use Rattle.inspecting.specs.SummaryJson.{row_json}
use Rattle.inspecting.proofs.fleet.row_json.row_values.Given as goal

-- There are the objects of the rows so far.
abbrev pub invariant-loop-key : goal.invariant-loop-key
invariant-loop-key l = map view l.values.items ≡ map row_json (map entry_row (map deref_pair l.yielded))
