use Rattle.std.proofs.Common.{refl}
use Rattle.image_reading.specs.Image.{image_bytes}
use Rattle.tlv.specs.Making.{image_of}
use Rattle.tlv.proofs.MakingLaws.{intact_image}
use Rattle.tlv.proofs.make.write_image.Goals as goal

-- The values fit their fields, so the image that was written is read back.
pub returns-then-length-buffer-clause-intact : goal.returns-then-length-buffer-clause-intact
returns-then-length-buffer-clause-intact c = λ fits.
    intact_image (image_bytes (image_of c.args.spec.now)) c.args.spec.now c.in_ok-length.ensures.makeable
    c.put_image.ensures.fits refl
