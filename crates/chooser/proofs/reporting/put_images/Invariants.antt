use Rattle.std.proofs.Common.{◌≡◌, map, take}
use Rattle.std.specs.List.{enumerate_from}
use Rattle.arrayvec.specs.ArrayVec.{array_vec_len}
use Rattle.chooser.specs.Reported.{reported_image}
use Rattle.chooser.proofs.reporting.put_images.Given as goal

-- The images so far are reported.
abbrev pub invariant-loop-number : goal.invariant-loop-number
invariant-loop-number l = record {
  images : l.images.items ≡ map (reported_image l.refusals)
      (enumerate_from 0 (take l.number l.table.images.items));
  count : array_vec_len l.images ≡ l.number;
}
