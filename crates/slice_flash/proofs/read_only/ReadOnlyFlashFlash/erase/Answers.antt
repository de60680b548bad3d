use Rattle.slice_flash.proofs.ReadOnlyLaws.{refused_erase}
use Rattle.slice_flash.proofs.read_only.ReadOnlyFlashFlash.erase.Goals as goal

pub returns : goal.returns
returns g c = refused_erase _ _ _ _ c.refuse.ensures
