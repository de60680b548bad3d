use Rattle.sweep.proofs.command.sweep_images.Given as goal

-- The token of the flash.
abbrev pub ghosts-provision_in_memory : goal.ghosts-provision_in_memory
ghosts-provision_in_memory g a = record { name = a.blank.name; parts = a.blank.parts }
