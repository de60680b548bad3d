use Rattle.std.proofs.Common.{◌≡◌, ◌<◌, ◌≤◌, ℕ, slice_index, length}
use Rattle.sector_map.proofs.making.table_of.Given as goal

abbrev pub invariant-loop-i : goal.invariant-loop-i
invariant-loop-i l = record {
  long : length l.table ≡ 8;
  same : (k : ℕ) → k < l.i → slice_index l.table k ≡ slice_index l.counts k;
  rest : (k : ℕ) → l.i ≤ k → slice_index l.table k ≡ 0;
}
