use Rattle.layer_tests.proofs.intake.reads.bytes_read.Given as goal

abbrev pub ghosts-counted : goal.ghosts-counted
ghosts-counted g a = record { name = a.blank.name; parts = a.blank.parts }
