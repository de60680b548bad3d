use Rattle.std.proofs.Common.{◌≡◌}
use Rattle.device_commands.proofs.ImageLaws.{AreRead}
use Rattle.device_commands.proofs.provision.read_images.Given as goal

-- The files of the images so far were read and put onto a new flash. No flash was opened.
abbrev pub invariant-loop-image : goal.invariant-loop-image
invariant-loop-image g l = record {
  read : AreRead l.map l.images l.image (g.H.Host.input l.fn.host) (g.H.Host.file l.fn.host)
      (g.H.Host.input l.host) (g.H.Host.file l.host) l.bytes.items;
  opened : g.H.Host.opened l.host ≡ g.H.Host.opened l.fn.host;
}
