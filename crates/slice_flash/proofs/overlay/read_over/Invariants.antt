use Rattle.std.proofs.Common.{◌≡◌, ◌+◌, ◌≤◌, length, slice_range}
use Rattle.slice_flash.specs.Overlay.{position, replayed}
use Rattle.slice_flash.proofs.overlay.read_over.Given as goal

abbrev pub invariant-loop-k : goal.invariant-loop-k
invariant-loop-k l = record {
  offset : l.offset ≡ position l.journal l.k;
  same_size : length l.out ≡ length l.initial.out;
  within : l.offset ≤ length l.journal;
  read : l.out ≡ slice_range (replayed l.base l.journal l.k) l.at (l.at + length l.initial.out);
}
