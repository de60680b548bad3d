use Rattle.std.proofs.Common.{◌≡◌, map}
use Rattle.std.specs.Map.Iter.{deref_pair}
use Rattle.inspecting.specs.Row.{summary_text}
use Rattle.inspecting.specs.Rows.{entry_row}
use Rattle.inspecting.proofs.fleet.rows.rows_text.Given as goal

-- The rows so far are in the text.
abbrev pub invariant-loop-key : goal.invariant-loop-key
invariant-loop-key l = l.text.items ≡ summary_text (map entry_row (map deref_pair l.yielded))
