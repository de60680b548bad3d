use Rattle.device_commands.proofs.run.run_script.Given as goal

-- The token of the flash over the file.
abbrev pub ghosts-play-L-Ledger : goal.ghosts-play-L-Ledger
ghosts-play-L-Ledger g a = record { name = a.blank.name; parts = a.blank.parts }

-- The token of the flash in memory.
abbrev pub ghosts-play-M-Ledger : goal.ghosts-play-M-Ledger
ghosts-play-M-Ledger g a = record { name = a.memory_blank.name; parts = a.memory_blank.parts }
