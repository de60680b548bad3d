use Rattle.std.proofs.Common.{refl}
use Rattle.c_interface.specs.DeviceCall.{Boot}
use Rattle.c_interface.proofs.StepLaws.{makes}
use Rattle.c_interface.proofs.calls.BootCall.make.Goals as goal

pub returns : goal.returns
returns g c = makes _ _ _ _ Boot _ _ _ refl c.requires.on c.boot_into.ensures
