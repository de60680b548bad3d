use Rattle.boot_core.proofs.Opening.{opens_passed}
use Rattle.boot_core.proofs.intake.open_uploads.Goals as goal

pub returns : goal.returns
returns g c =
    opens_passed _ _ _ _ _ _ _ _ _ _ c.requires.laid_out c.requires.opens (c.requires.up, c.requires.rests) _ _
    c.accept.ensures c.pass_on.ensures
