use Rattle.layer_tests.proofs.medium.overlay_flash.is_shown.Given as goal

abbrev pub ghosts-are_all_shown : goal.ghosts-are_all_shown
ghosts-are_all_shown a = record { name = a.blank.name; parts = a.blank.parts }
