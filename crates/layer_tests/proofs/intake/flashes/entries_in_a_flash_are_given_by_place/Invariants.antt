use Rattle.layer_tests.proofs.intake.flashes.entries_in_a_flash_are_given_by_place.Given as goal

abbrev pub ghosts-walked : goal.ghosts-walked
ghosts-walked g a = record { name = a.blank.name; parts = a.blank.parts }
