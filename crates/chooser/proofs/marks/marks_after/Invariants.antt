use Rattle.std.proofs.Common.{◌≡◌, length}
use Rattle.chooser.proofs.Marking.{AreMarksBelow}
use Rattle.chooser.proofs.marks.marks_after.Given as goal

-- The images so far are marked.
abbrev pub invariant-loop-number : goal.invariant-loop-number
invariant-loop-number l = record {
  marked : AreMarksBelow l.table l.refusals l.number l.marks;
  count : length l.marks ≡ 8;
}
