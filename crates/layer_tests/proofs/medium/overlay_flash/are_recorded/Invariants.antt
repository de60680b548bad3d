use Rattle.layer_tests.proofs.medium.overlay_flash.are_recorded.Given as goal

abbrev pub ghosts-play : goal.ghosts-play
ghosts-play a = record { name = a.blank.name; parts = a.blank.parts }
