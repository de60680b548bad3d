use Rattle.creating.proofs.precursors.read_precursors.Given as goal

-- The token of the flash.
abbrev pub ghosts-precursors_in : goal.ghosts-precursors_in
ghosts-precursors_in g a = record { name = a.blank.name; parts = a.blank.parts }
