use Rattle.std.proofs.Common.{refl}
use Rattle.c_interface.specs.DeviceCall.{Accept}
use Rattle.c_interface.proofs.StepLaws.{makes}
use Rattle.c_interface.proofs.calls.AcceptCall.make.Goals as goal

pub accept_manifest-requires-clause-opens : goal.accept_manifest-requires-clause-opens
accept_manifest-requires-clause-opens g c = c.requires.opens refl

pub returns : goal.returns
returns g c = makes _ _ _ _ (Accept c.args.self.now.0) _ _ _ refl c.requires.on (c.accept_manifest.result, refl, c.accept_manifest.ensures)
