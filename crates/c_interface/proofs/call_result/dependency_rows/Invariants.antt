use Rattle.std.proofs.Common.{◌≡◌, ◌<◌, ◌≤◌, ℕ, Some, length, slice_get}
use Rattle.version_order.specs.declared.dependency.Dependency.{Dependency}
use Rattle.c_interface.specs.CallResult.{dependency_row, no_dependency}
use Rattle.c_interface.proofs.call_result.dependency_rows.Given as goal

abbrev pub invariant-loop-i : goal.invariant-loop-i
invariant-loop-i g l = record {
  long : length l.rows ≡ g.row.N;
  each : (k : ℕ) (dependency : Dependency) → k < l.i → slice_get l.dependencies k ≡ Some dependency
      → slice_get l.rows k ≡ Some (dependency_row dependency);
  rest : (k : ℕ) → l.i ≤ k → k < g.row.N → slice_get l.rows k ≡ Some no_dependency;
}
