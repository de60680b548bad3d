use Rattle.device_commands.proofs.provision.run_provision.Given as goal

-- The token of the flash.
abbrev pub ghosts-make_flash : goal.ghosts-make_flash
ghosts-make_flash g a = record { name = a.blank.name; parts = a.blank.parts }
