use Rattle.image_reading.proofs.ImageLaws.{image_front-unique}
use Rattle.image_reading.proofs.laws.one_front_is_an_image.Goals as goal

pub returns : goal.returns
returns c = image_front-unique
