use Rattle.layer_tests.proofs.records.calls.read_of.Given as goal

abbrev pub ghosts-read : goal.ghosts-read
ghosts-read g a = record { name = a.blank.name; parts = a.blank.parts }
