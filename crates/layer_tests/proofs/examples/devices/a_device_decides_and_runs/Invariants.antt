use Rattle.layer_tests.proofs.examples.devices.a_device_decides_and_runs.Given as goal

abbrev pub ghosts-decide_and_run : goal.ghosts-decide_and_run
ghosts-decide_and_run g a = record { name = a.blank.name; parts = a.blank.parts }
