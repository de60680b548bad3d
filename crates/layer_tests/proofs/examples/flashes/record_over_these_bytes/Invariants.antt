use Rattle.layer_tests.proofs.examples.flashes.record_over_these_bytes.Given as goal

abbrev pub ghosts-record_over_bytes : goal.ghosts-record_over_bytes
ghosts-record_over_bytes g a = record { name = a.blank.name; parts = a.blank.parts }
