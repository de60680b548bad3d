use Rattle.std.proofs.Common.{◌+◌, ◌≤◌, length}
use Rattle.inspecting.specs.Merging.{HasAdded}
use Rattle.inspecting.proofs.fleet.merging.add_text.Given as goal

-- The rows before the rest are added. Each line that was read has some bytes.
abbrev pub invariant-loop-rest : goal.invariant-loop-rest
invariant-loop-rest l = record {
  added : HasAdded l.text l.rest l.last l.fn.summary.rows l.summary.rows;
  lines : l.line + length l.rest ≤ length l.text;
}

abbrev pub decreases-loop-rest : goal.decreases-loop-rest
decreases-loop-rest l = length l.rest
