use Rattle.explaining.proofs.resting_tables.resting_table.Given as goal

-- The token of the flash.
abbrev pub ghosts-table_of_flash : goal.ghosts-table_of_flash
ghosts-table_of_flash a = record { name = a.blank.name; parts = a.blank.parts }
