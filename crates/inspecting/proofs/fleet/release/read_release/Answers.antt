use Rattle.std.proofs.Common.{ℕ, List, [], get_or}
use Rattle.std.proofs.lemmas.List.{get_or_default}
use Rattle.command_line.specs.declared.orders.RequestedFile.{RequestedFile}
use Rattle.host.proofs.InputLaws.{KeepsFiles-twice, kept_twice}
use Rattle.inspecting.proofs.ReleaseLaws.{IsEntryOfFile-kept, IsRelease-more}
use Rattle.inspecting.proofs.fleet.release.read_release.Goals as goal

-- The file at a place.
abbrev file_at : List RequestedFile → ℕ → RequestedFile
file_at files place = get_or files place (record { image = 0; file = record { ref_ptr = (0, 0); now = [] } })

-- One more file is read.
pub loop-file-preserved : goal.loop-file-preserved
loop-file-preserved g c =
    let files = c.args.files.now in
    let file = file_at files c.loop-file.file-index in
    let is = get_or_default files c.loop-file.file-index _ file c.loop-file-test.true in
    record {
      release = IsRelease-more _ files c.loop-file.file-index file c.in_ok-entry.entry c.loop-file.requests.entries _
          c.loop-file-test.true is c.in_ok-put.ensures
          (IsEntryOfFile-kept _ _ _ _ c.loop-file.invariant.files c.in_ok-entry.ensures.entry)
          c.loop-file.invariant.release;
      files = KeepsFiles-twice _ _ _ c.loop-file.invariant.files c.read_entry.ensures.files;
      input = kept_twice _ _ _ c.loop-file.invariant.input c.read_entry.ensures.input;
    }
