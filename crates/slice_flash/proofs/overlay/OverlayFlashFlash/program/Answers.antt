use Rattle.std.proofs.Common.{arith}
use Rattle.slice_flash.specs.Steps.{Programmed}
use Rattle.slice_flash.specs.OverlayFlash.{recording_of}
use Rattle.slice_flash.proofs.Recorded.{programs_recorded}
use Rattle.slice_flash.proofs.overlay.OverlayFlashFlash.program.Goals as goal

pub returns-clause-chip : goal.returns-clause-chip
returns-clause-chip g c =
    let flash = c.args.self.now in
    programs_recorded c.write.result (Programmed c.args.at c.args.bytes.now) (recording_of flash) (recording_of c.write.new.self)
    (omega (arith, c.requires.inside, flash.whole)) c.write.ensures
