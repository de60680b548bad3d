use Rattle.std.proofs.Common.{◌≡◌, ◌+◌, ◌≤◌, length, ap, ◌∙◌, arith}
use Rattle.sha2.specs.Sha256.{sha256}
use Rattle.image_reading.specs.Image.{hashed_bytes, image_bytes}
use Rattle.tlv.specs.Making.{image_of}
use Rattle.tlv.specs.Writing.{puts_both}
use Rattle.tlv.proofs.MakingSteps.{hashed_within, image_spelled, puts_front, puts_same}
use Rattle.tlv.proofs.make.put_image.Goals as goal

-- The digest is of what was written before it.
pub returns-clause-image : goal.returns-clause-image
returns-clause-image c =
    let spec = c.args.spec.now in
    let hashed = c.put_hashed-place.ensures.hashed in
    let within = hashed_within spec (length c.args.buffer.now) c.requires.room in
    let fits : 0 + length (hashed_bytes (image_of spec)) ≤ length c.args.buffer.now = omega (arith, within) in
    let digest : c.digest-digest.result ≡ sha256 (hashed_bytes (image_of spec)) =
    c.digest-digest.ensures ∙ ap sha256 (hashed.put fits) in
    puts_front c.args.buffer.now (image_bytes (image_of spec)) _ _
    (puts_same _ (image_bytes (image_of spec))
    (puts_both _ _ _ _ _ _ _ _ (puts_both _ _ _ _ _ _ _ _ hashed c.put_head-place.ensures) c.put_entry.ensures)
    (image_spelled spec c.digest-digest.result digest))
    c.requires.room
