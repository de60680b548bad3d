use Rattle.slice_flash.proofs.ReadOnlyLaws.{refused_program}
use Rattle.slice_flash.proofs.read_only.ReadOnlyFlashFlash.program.Goals as goal

pub returns : goal.returns
returns g c = refused_program _ _ _ _ _ c.refuse.ensures
