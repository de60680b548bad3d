use Rattle.layer_tests.proofs.device.devices.outcome_of.Given as goal

abbrev pub ghosts-play : goal.ghosts-play
ghosts-play g a = record { name = a.blank.name; parts = a.blank.parts }
