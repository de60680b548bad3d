use Rattle.slice_flash.proofs.Refused.{can_program}
use Rattle.slice_flash.proofs.overlay.OverlayFlashFlash.TheImpl.Goals as goal

pub program-asks : goal.program-asks
program-asks g c = can_program _ _ _ c.requires.inside c.requires.erased c.requires.place c.requires.units c.requires.some
