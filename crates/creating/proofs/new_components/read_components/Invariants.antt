use Rattle.std.proofs.Common.{◌≡◌}
use Rattle.host.specs.Input.{KeepsFiles}
use Rattle.creating.proofs.NewManifestLaws.{AreRead}
use Rattle.creating.proofs.new_components.read_components.Given as goal

-- The files so far were read, and their components made. No file changed, and none was opened.
abbrev pub invariant-loop-place : goal.invariant-loop-place
invariant-loop-place g l = record {
  read : AreRead l.asked l.precursors l.place (g.H.Host.input l.fn.host) (g.H.Host.file l.fn.host)
      (g.H.Host.input l.host) (g.H.Host.file l.host) l.components.items;
  files : KeepsFiles (g.H.Host.file l.fn.host) (g.H.Host.file l.host);
  opened : g.H.Host.opened l.host ≡ g.H.Host.opened l.fn.host;
}
