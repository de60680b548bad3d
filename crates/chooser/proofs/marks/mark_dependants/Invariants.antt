use Rattle.std.proofs.Common.{◌≡◌}
use Rattle.chooser.proofs.Counting.{AreLooks}
use Rattle.chooser.proofs.Marking.{AreMarksUpTo}
use Rattle.chooser.proofs.marks.mark_dependants.Given as goal

-- The marks of the images so far are updated, with a look for each dependant, and no other count
-- changed.
abbrev pub invariant-loop-number : goal.invariant-loop-number
invariant-loop-number l = record {
  marked : AreMarksUpTo l.table l.refusals l.dropped l.number l.marks;
  looked : AreLooks l.table l.refusals l.number l.fn.steps.looks l.steps.looks;
  only_looks : l.steps ≡ record l.fn.steps { looks = l.steps.looks };
}
