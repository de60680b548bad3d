use Rattle.std.proofs.Common.{refl}
use Rattle.c_interface.specs.DeviceCall.{Finish}
use Rattle.c_interface.proofs.StepLaws.{makes}
use Rattle.c_interface.proofs.calls.FinishCall.make.Goals as goal

pub finish-requires-clause-opens : goal.finish-requires-clause-opens
finish-requires-clause-opens g c = c.requires.opens refl

pub returns : goal.returns
returns g c = makes _ _ _ _ (Finish c.args.self.now.0) _ _ _ refl c.requires.on (c.finish.result, refl, c.finish.ensures)
