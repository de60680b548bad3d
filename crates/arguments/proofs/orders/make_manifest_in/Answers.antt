use Rattle.command_line.proofs.OrderLaws.{no_manifest_asked}
use Rattle.arguments.proofs.orders.make_manifest_in.Goals as goal

-- If the matches describe no manifest, they give no order for one.
pub returns-in-None : goal.returns-in-None
returns-in-None c = no_manifest_asked _ (rw c.in-None.is at c.in_ok-manifest.ensures)
