use Rattle.layer_tests.proofs.device.provisioning.answer_to.Given as goal

abbrev pub ghosts-make : goal.ghosts-make
ghosts-make g a = record { name = a.blank.name; parts = a.blank.parts }
