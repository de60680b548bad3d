use Rattle.std.proofs.Common.{refl}
use Rattle.c_interface.specs.DeviceCall.{Withdraw}
use Rattle.c_interface.proofs.StepLaws.{makes}
use Rattle.c_interface.proofs.calls.WithdrawCall.make.Goals as goal

pub withdraw-requires-clause-opens : goal.withdraw-requires-clause-opens
withdraw-requires-clause-opens g c = c.requires.opens refl

pub returns : goal.returns
returns g c = makes _ _ _ _ (Withdraw c.args.self.now.0) _ _ _ refl c.requires.on (c.withdraw.result, refl, c.withdraw.ensures)
