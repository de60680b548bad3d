use Rattle.c_interface.proofs.recording.record_provision.Given as goal

abbrev pub ghosts-provision_recorded : goal.ghosts-provision_recorded
ghosts-provision_recorded a = record { name = a.blank.name; parts = a.blank.parts }
