use Rattle.creating.proofs.CopyLaws.{image_fits, image_front}
use Rattle.creating.proofs.extract.image_length.Goals as goal

-- The described image is at the front of the slot.
pub returns-in-Ok-clause-image : goal.returns-in-Ok-clause-image
returns-in-Ok-clause-image g c = image_front _ c.in-Ok.description c.in-Ok.ensures.described

pub returns-in-Ok-clause-fits : goal.returns-in-Ok-clause-fits
returns-in-Ok-clause-fits g c = image_fits _ c.in-Ok.description c.in-Ok.ensures.described

-- The check that fails is the first that does.
pub returns-in-Err-Image-clause-fault : goal.returns-in-Err-Image-clause-fault
returns-in-Err-Image-clause-fault g c = (rw c.in-Err-Image.field-0-is at c.in-Err-Image.ensures.fault).1
