use Rattle.layer_tests.proofs.intake.flashes.a_flash_that_is_off_is_told_as_such.Given as goal

abbrev pub ghosts-told_off : goal.ghosts-told_off
ghosts-told_off g a = record { name = a.blank.name; parts = a.blank.parts }
