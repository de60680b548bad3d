use Rattle.std.proofs.Common.{◌+◌}
use Rattle.machine.specs.declared.event.Event.TheVariants as event
use Rattle.sector_map.specs.Part.{Slot, only}
use Rattle.sector_map.specs.declared.layout.Side.TheVariants.{Secondary}
use Rattle.boot_core.proofs.Wholes.{device_takes}
use Rattle.boot_core.proofs.device.Device.piece.Goals as goal

pub returns : goal.returns
returns g c =
    device_takes (event.Piece c.args.image c.args.more) (only (Slot c.args.image Secondary)) c.self.inside.map
    c.self.inside.identity (c.self.inside.left + 1) _ _ _ c.piece.result c.self.view_is c.piece.ensures.taken
