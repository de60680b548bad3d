use Rattle.layer_tests.proofs.examples.flashes.writes_are_cut.Given as goal

abbrev pub ghosts-cut_in_memory : goal.ghosts-cut_in_memory
ghosts-cut_in_memory g a = record { name = a.blank.name; parts = a.blank.parts }
