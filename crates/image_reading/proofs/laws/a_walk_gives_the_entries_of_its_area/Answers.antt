use Rattle.image_reading.proofs.Walks.{only_walk, walk_of}
use Rattle.image_reading.proofs.laws.a_walk_gives_the_entries_of_its_area.Goals as goal

pub returns : goal.returns
returns c = record { walk = walk_of; only = only_walk }
