use Rattle.image_reading.proofs.ImageLaws.{image_begins_no_other}
use Rattle.image_reading.proofs.laws.no_image_begins_another.Goals as goal

pub returns : goal.returns
returns c = image_begins_no_other
