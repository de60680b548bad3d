use Rattle.std.proofs.Common.{◌≡◌, ◌+◌, ◌-◌, ◌≤◌, length}
use Rattle.arrayvec.specs.ArrayVec.{array_vec_len}
use Rattle.chooser.specs.Counted.{drops_in}
use Rattle.chooser.specs.Marks.{AreMarks}
use Rattle.chooser.proofs.Counting.{most_looks}
use Rattle.chooser.proofs.Order.{IsRefusalList}
use Rattle.chooser.proofs.choice.put_refusals.Given as goal

-- The list so far is in the standard order and refuses each request at most once. The marks are
-- right for it, and the steps are counted.
abbrev pub invariant-loop-refusal : goal.invariant-loop-refusal
invariant-loop-refusal l = record {
  listed : IsRefusalList l.table l.refusals.items;
  marked : AreMarks l.table l.refusals.items l.marks;
  passes : l.steps.passes ≡ l.fn.steps.passes + 1;
  drops : l.steps.drops ≡ l.fn.steps.drops + drops_in l.refusals.items;
  at_least : l.fn.steps.looks ≤ l.steps.looks;
  at_most : l.steps.looks ≤ l.fn.steps.looks + most_looks (length l.refusals.items);
}

-- The number of images that aren't refused yet.
abbrev pub decreases-loop-refusal : goal.decreases-loop-refusal
decreases-loop-refusal l = array_vec_len l.table.images - array_vec_len l.refusals
