use Rattle.std.proofs.Common.{refl}
use Rattle.c_interface.specs.DeviceCall.{Piece}
use Rattle.c_interface.proofs.StepLaws.{makes}
use Rattle.c_interface.proofs.calls.PieceCall.make.Goals as goal

pub returns : goal.returns
returns g c = makes _ _ _ _ (Piece c.args.self.now.0 c.args.self.now.1) _ _ _ refl c.requires.on (c.piece.result, refl, c.piece.ensures)
