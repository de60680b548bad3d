use Rattle.std.proofs.Common.{◌≡◌, ◌<◌, ℕ, length, slice_index_or}
use Rattle.upload.specs.Sessions.{upload_at}
use Rattle.c_interface.specs.SavedState.{SavesUpload, no_row}
use Rattle.c_interface.proofs.saved_state.load_uploads.Given as goal

abbrev pub invariant-loop-i : goal.invariant-loop-i
invariant-loop-i l = record {
  long : length l.uploads ≡ 8;
  each : (j : ℕ) → j < l.i → SavesUpload (slice_index_or l.rows j no_row) (upload_at l.uploads j);
}
