use Rattle.layer_tests.proofs.medium.flash_files.is_seen.Given as goal

abbrev pub ghosts-is_told-L-Ledger : goal.ghosts-is_told-L-Ledger
ghosts-is_told-L-Ledger a = record { name = a.blanks.0.name; parts = a.blanks.0.parts }

abbrev pub ghosts-is_told-M-Ledger : goal.ghosts-is_told-M-Ledger
ghosts-is_told-M-Ledger a = record { name = a.blanks.1.name; parts = a.blanks.1.parts }
