use Rattle.slice_flash.proofs.overlay.OverlayFlashFlash.read.Goals as goal

pub read_through-requires-clause-start : goal.read_through-requires-clause-start
read_through-requires-clause-start g c =
    let flash = c.args.self.now in
    c.start_of-start.ensures flash.base.now flash.journal.now flash.end flash.indexed
