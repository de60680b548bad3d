use Rattle.layer_tests.proofs.device.given_manifests.refused_of.Given as goal

abbrev pub ghosts-refused : goal.ghosts-refused
ghosts-refused g a = record { name = a.blank.name; parts = a.blank.parts }
