use Rattle.creating.proofs.extract.run_extract.Given as goal

-- The token of the flash.
abbrev pub ghosts-copy : goal.ghosts-copy
ghosts-copy g a = record { name = a.blank.name; parts = a.blank.parts }
