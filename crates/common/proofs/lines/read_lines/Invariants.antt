use Rattle.std.proofs.Common.{◌≡◌, ◌+◌, ◌≤◌, length}
use Rattle.common.specs.Lines.{lines_of}
use Rattle.common.specs.Reading.{read_lines}
use Rattle.common.proofs.lines.read_lines.Given as goal

-- Reading the rest has the same result as reading the complete text.
abbrev pub invariant-loop-rest : goal.invariant-loop-rest
invariant-loop-rest g l = record {
  counted : l.number + length l.rest ≤ length l.text;
  read : read_lines g.S.TakesLines.with_line l.state (l.number + 1) (lines_of l.rest) ≡ read_lines g.S.TakesLines.with_line l.initial.state 1 (lines_of l.text);
}

abbrev pub decreases-loop-rest : goal.decreases-loop-rest
decreases-loop-rest g l = length l.rest
