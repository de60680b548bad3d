use Rattle.c_interface.proofs.recording.record_device.Given as goal

abbrev pub ghosts-run_recorded : goal.ghosts-run_recorded
ghosts-run_recorded g a = record { name = a.blank.name; parts = a.blank.parts }
