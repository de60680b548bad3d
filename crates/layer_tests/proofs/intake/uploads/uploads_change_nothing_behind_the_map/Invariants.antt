use Rattle.layer_tests.proofs.intake.uploads.uploads_change_nothing_behind_the_map.Given as goal

abbrev pub ghosts-uploaded : goal.ghosts-uploaded
ghosts-uploaded g a = record { name = a.blank.name; parts = a.blank.parts }
