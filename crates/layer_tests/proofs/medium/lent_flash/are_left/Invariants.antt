use Rattle.layer_tests.proofs.medium.lent_flash.are_left.Given as goal

abbrev pub ghosts-play : goal.ghosts-play
ghosts-play a = record { name = a.blank.name; parts = a.blank.parts }
