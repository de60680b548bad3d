use Rattle.std.proofs.Common.{◌+◌}
use Rattle.machine.specs.declared.event.Event.TheVariants as event
use Rattle.sector_map.specs.Part.{incoming_of}
use Rattle.boot_core.proofs.Wholes.{device_takes}
use Rattle.boot_core.proofs.device.Device.withdraw.Goals as goal

pub returns : goal.returns
returns g c =
    device_takes (event.Withdraw c.args.image) (incoming_of c.args.image) c.self.inside.map
    c.self.inside.identity (c.self.inside.left + 1) _ _ _ c.withdraw.result c.self.view_is c.withdraw.ensures
