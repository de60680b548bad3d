use Rattle.layer_tests.proofs.examples.flashes.cut_in_these_bytes.Given as goal

abbrev pub ghosts-cut_in_bytes : goal.ghosts-cut_in_bytes
ghosts-cut_in_bytes g a = record { name = a.blank.name; parts = a.blank.parts }
