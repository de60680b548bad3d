use Rattle.upload.proofs.OpenOnes.{open_none}
use Rattle.upload.specs.View.{view}
use Rattle.layer_tests.proofs.examples.flashes.upload_an_image.Goals as goal

pub finish-requires-clause-open : goal.finish-requires-clause-open
finish-requires-clause-open g c =
    c.piece.ensures.all_open
    (c.accept.ensures.all_open
    (open_none (view c.in_ok-map.map (g.F.Flash.chip c.read_state.new.flash)) c.new-uploads.result.sessions
    c.new-uploads.ensures)) 0
