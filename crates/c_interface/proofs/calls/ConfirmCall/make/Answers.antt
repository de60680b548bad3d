use Rattle.std.proofs.Common.{refl}
use Rattle.c_interface.specs.DeviceCall.{Confirm}
use Rattle.c_interface.proofs.StepLaws.{makes}
use Rattle.c_interface.proofs.calls.ConfirmCall.make.Goals as goal

pub confirm_on-requires-clause-opens : goal.confirm_on-requires-clause-opens
confirm_on-requires-clause-opens g c = c.requires.opens refl

pub returns : goal.returns
returns g c = makes _ _ _ _ (Confirm c.args.self.now.0) _ _ _ refl c.requires.on (c.confirm_on.result, refl, c.confirm_on.ensures)
