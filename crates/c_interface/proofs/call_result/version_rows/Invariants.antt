use Rattle.std.proofs.Common.{◌≡◌, ◌<◌, ◌≤◌, ℕ, Some, length, slice_get}
use Rattle.reports.specs.declared.report.ReportedImage.{ReportedImage}
use Rattle.c_interface.specs.CallResult.{no_version, version_row}
use Rattle.c_interface.proofs.call_result.version_rows.Given as goal

abbrev pub invariant-loop-i : goal.invariant-loop-i
invariant-loop-i l = record {
  long : length l.rows ≡ 8;
  each : (k : ℕ) (image : ReportedImage) → k < l.i → slice_get l.images k ≡ Some image
      → slice_get l.rows k ≡ Some (version_row image.version);
  rest : (k : ℕ) → l.i ≤ k → k < 8 → slice_get l.rows k ≡ Some (version_row no_version);
}
