use Rattle.std.proofs.Common.{ap, take, ◌∙◌}
use Rattle.sha2.specs.Sha256.{sha256}
use Rattle.image_reading.proofs.slot.digest_file.Goals as goal

pub returns-clause-ok : goal.returns-clause-ok
returns-clause-ok g c =
    let chip = g.F.Flash.chip c.args.flash.now in
    let slot = c.slot_span.ensures.bytes chip c.requires.laid_out in
    let file = c.first-file.ensures.bytes chip ∙ ap (take c.args.len) slot in
    let own = rw c.read.ensures.same at c.digest.ensures.digest in
    own ∙ ap sha256 file
