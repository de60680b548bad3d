use Rattle.layer_tests.proofs.device.reads.check_part.Given as goal

abbrev pub ghosts-run_upgrades : goal.ghosts-run_upgrades
ghosts-run_upgrades g a = record { name = a.blank.name; parts = a.blank.parts }
