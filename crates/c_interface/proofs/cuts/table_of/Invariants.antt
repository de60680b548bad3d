use Rattle.std.proofs.Common.{◌≡◌, ◌<◌, ◌≤◌, ℕ, Some, length, slice_get}
use Rattle.slice_flash.specs.declared.table.ArmedCut.{ArmedCut}
use Rattle.c_interface.specs.declared.cuts.CutRow.{CutRow}
use Rattle.c_interface.specs.Cuts.{IsCutOf}
use Rattle.c_interface.proofs.cuts.table_of.Given as goal

abbrev pub invariant-loop-i : goal.invariant-loop-i
invariant-loop-i l = record {
  long : length l.table ≡ 16;
  each : (k : ℕ) (row : CutRow) → k < l.i → slice_get l.rows k ≡ Some row
      → (cut : ArmedCut) × (slice_get l.table k ≡ Some cut) × IsCutOf row cut;
  rest : (k : ℕ) (cut : ArmedCut) → l.i ≤ k → slice_get l.table k ≡ Some cut → cut.write ≡ 0;
}
