use Rattle.layer_tests.proofs.medium.read_only_flash.are_refused.Given as goal

abbrev pub ghosts-play : goal.ghosts-play
ghosts-play a = record { name = a.blank.name; parts = a.blank.parts }
