use Rattle.layer_tests.proofs.records.calls.torn_outcome_of.Given as goal

abbrev pub ghosts-made : goal.ghosts-made
ghosts-made g a = record { name = a.blank.name; parts = a.blank.parts }
