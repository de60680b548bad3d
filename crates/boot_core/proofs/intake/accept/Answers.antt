use Rattle.boot_core.proofs.Opening.{can_open, text_declined, text_opened, text_refused_here}
use Rattle.boot_core.proofs.intake.accept.Goals as goal

pub returns-in_err-ready : goal.returns-in_err-ready
returns-in_err-ready g c = text_declined _ _ _ _ _ c.in_err-ready.ensures c.requires.laid_out c.requires.opens
    c.args.text _ c.from_residual.ensures.1

pub returns-in_err-manifest : goal.returns-in_err-manifest
returns-in_err-manifest g c = text_refused_here _ _ _ _ c.in_ok-ready.ensures c.args.text _ _
    c.in_err-manifest.ensures.refused c.from_residual-in_err-manifest.ensures.1 c.requires.laid_out c.requires.opens

pub returns : goal.returns
returns g c = text_opened _ _ _ _ c.in_ok-ready.ensures c.args.text _ _ _ c.in_ok-manifest.ensures.means
    c.open_uploads.ensures

pub open_uploads-requires : goal.open_uploads-requires
open_uploads-requires g c = can_open _ _ _ _ c.in_ok-ready.ensures _ c.requires.laid_out c.requires.images
    c.requires.opens c.in_ok-manifest.ensures.means.meaning.images
