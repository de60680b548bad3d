use Rattle.sweep.proofs.sweeping.sweep.Given as goal

-- The token of the flash.
abbrev pub ghosts-count_writes : goal.ghosts-count_writes
ghosts-count_writes g a = record { name = a.blank.name; parts = a.blank.parts }
