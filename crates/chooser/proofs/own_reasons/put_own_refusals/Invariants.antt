use Rattle.std.proofs.Common.{◌≡◌, ◌≤◌, take}
use Rattle.std.specs.List.{enumerate_from, filter_map}
use Rattle.arrayvec.specs.ArrayVec.{array_vec_len}
use Rattle.reports.specs.StandardOrder.{own_refusal}
use Rattle.chooser.proofs.own_reasons.put_own_refusals.Given as goal

-- The refusals of the images so far are listed.
abbrev pub invariant-loop-number : goal.invariant-loop-number
invariant-loop-number l = record {
  listed : l.refusals.items ≡ filter_map (own_refusal l.table) (take l.number (enumerate_from 0 l.table.images.items));
  count : array_vec_len l.refusals ≤ l.number;
}
