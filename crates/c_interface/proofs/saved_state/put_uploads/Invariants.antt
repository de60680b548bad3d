use Rattle.std.proofs.Common.{◌≡◌, ◌<◌, ℕ, length, map, slice_index_or, take}
use Rattle.upload.specs.Sessions.{upload_at}
use Rattle.c_interface.specs.SavedState.{SavesUpload, no_row, row_of}
use Rattle.c_interface.proofs.saved_state.put_uploads.Given as goal

abbrev pub invariant-loop-i : goal.invariant-loop-i
invariant-loop-i l = record {
  long : length l.rows ≡ 8;
  exact : take l.i l.rows ≡ map row_of (take l.i l.sessions);
  each : (j : ℕ) → j < l.i → SavesUpload (slice_index_or l.rows j no_row) (upload_at l.sessions j);
}
