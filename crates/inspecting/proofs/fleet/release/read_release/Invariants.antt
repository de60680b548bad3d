use Rattle.std.proofs.Common.{take}
use Rattle.std.specs.Io.KnownBytes.{Keeps}
use Rattle.host.specs.Input.{KeepsFiles}
use Rattle.inspecting.specs.Release.{IsRelease}
use Rattle.inspecting.proofs.fleet.release.read_release.Given as goal

-- The requests so far are those of the files so far. The host keeps its files and its input.
abbrev pub invariant-loop-file : goal.invariant-loop-file
invariant-loop-file g l = record {
  release : IsRelease (g.H.Host.file l.fn.host) (take l.file-index l.files) l.requests.entries;
  files : KeepsFiles (g.H.Host.file l.fn.host) (g.H.Host.file l.host);
  input : Keeps (g.H.Host.input l.fn.host) (g.H.Host.input l.host);
}
