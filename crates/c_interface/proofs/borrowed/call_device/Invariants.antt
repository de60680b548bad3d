use Rattle.c_interface.proofs.borrowed.call_device.Given as goal

abbrev pub ghosts-run_over_bytes : goal.ghosts-run_over_bytes
ghosts-run_over_bytes g a = record { name = a.blank.name; parts = a.blank.parts }
