use Rattle.std.proofs.Common.{◌≡◌, ◌<◌, ◌≤◌, ℕ, Some, length, slice_get}
use Rattle.manifest.specs.declared.manifest.Component.{Component}
use Rattle.manifest.specs.Rows.{component_row, no_component}
use Rattle.manifest.proofs.rows.manifest_row.Given as goal

abbrev pub invariant-loop-i : goal.invariant-loop-i
invariant-loop-i l = record {
  long : length l.components ≡ 8;
  each : (k : ℕ) (component : Component) → k < l.i → slice_get l.given k ≡ Some component
      → slice_get l.components k ≡ Some (component_row component);
  rest : (k : ℕ) → l.i ≤ k → k < 8 → slice_get l.components k ≡ Some no_component;
}
